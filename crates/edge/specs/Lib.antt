pub mod Edges
pub mod Uses
pub mod Below
pub mod OfEnds
