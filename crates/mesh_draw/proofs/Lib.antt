pub mod Tables
pub mod Points
pub mod Uses
pub mod Sides
pub mod Faces
