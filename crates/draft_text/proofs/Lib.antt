pub mod Lines
pub mod Adding
pub mod Turns
pub mod Making
