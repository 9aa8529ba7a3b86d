pub mod Judged
pub mod Stored
