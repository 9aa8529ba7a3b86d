pub mod Theorem
pub mod Loops
pub mod Answer
