pub mod Wires
pub mod Counts
pub mod Added
pub mod Filling
