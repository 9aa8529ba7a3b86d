pub mod Keeping
pub mod Meeting
pub mod Chaining
