pub mod Contents
pub mod Checks
pub mod Outlines
pub mod Columns
