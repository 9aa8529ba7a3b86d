pub mod Halves
pub mod Put
