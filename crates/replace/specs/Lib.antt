pub mod Same
pub mod Paths
