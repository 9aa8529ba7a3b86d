pub mod Edits
pub mod Told
