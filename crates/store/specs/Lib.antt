pub mod Store
pub mod Columns
