pub mod Words
pub mod Texts
mod Examples
mod Theorem
