pub mod Texts
pub mod Kept
