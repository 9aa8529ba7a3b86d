pub mod Columns
pub mod Laws
pub mod Counts
pub mod Passed
pub mod Named
pub mod Edges
pub mod Outlines
pub mod Stored
