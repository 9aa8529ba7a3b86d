pub mod Slots
pub mod Round
pub mod Theorem
