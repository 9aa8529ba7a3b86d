pub mod Mesh
pub mod Reading
