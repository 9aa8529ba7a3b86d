pub mod Saved
