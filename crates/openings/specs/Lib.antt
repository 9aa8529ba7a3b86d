pub mod Slots
pub mod Passes
