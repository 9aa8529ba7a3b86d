pub mod Groups
pub mod Forest
pub mod OfGroups
