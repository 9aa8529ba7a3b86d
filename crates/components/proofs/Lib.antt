pub mod Linking
pub mod Members
pub mod Theorem
pub mod Loops
pub mod Roots
