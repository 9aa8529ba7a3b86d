pub mod Help
pub mod Counts
pub mod Lines
