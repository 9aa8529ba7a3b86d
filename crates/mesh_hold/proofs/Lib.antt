pub mod Corners
pub mod Sides
pub mod Kept
pub mod Checks
pub mod Theorem
