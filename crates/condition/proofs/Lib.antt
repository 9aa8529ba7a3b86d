pub mod Digits
pub mod States
pub mod Least
pub mod Laws
pub mod Loops
pub mod Theorem
