pub mod Rest
pub mod Meshes
pub mod Answers
