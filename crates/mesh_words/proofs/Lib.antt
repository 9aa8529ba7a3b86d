pub mod Places
pub mod Naming
pub mod Spelling
pub mod Runs
pub mod Ending
