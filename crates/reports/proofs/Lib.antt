pub mod Faces
pub mod Ready
pub mod Alike
pub mod Groups
pub mod Columned
pub mod Closed
pub mod Openings
