pub mod Sound
pub mod Columns
pub mod Underived
