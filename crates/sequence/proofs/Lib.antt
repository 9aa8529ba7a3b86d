pub mod Only
pub mod Places
pub mod Firsts
pub mod Loops
