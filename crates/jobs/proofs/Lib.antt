pub mod Marks
pub mod Texts
pub mod Lines
mod Examples
