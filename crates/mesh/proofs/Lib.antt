pub mod Words
pub mod Phases
pub mod Bytes
pub mod Theorem
