pub mod Removals
pub mod Stored
