pub mod Solid
pub mod Sequence
