pub mod Once
pub mod Room
pub mod Loops
pub mod Columns
