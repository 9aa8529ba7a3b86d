pub mod Loops
pub mod Made
pub mod Shells
