pub mod Endings
pub mod Tables
pub mod Corners
