pub mod Fitting
pub mod Files
pub mod CutTheorem
pub mod JoinTheorem
pub mod VertexTheorem
pub mod ReportTheorem
pub mod Unnamed
