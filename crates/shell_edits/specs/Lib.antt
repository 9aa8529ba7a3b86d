pub mod NewEdges
pub mod Edits
pub mod Answers
pub mod Theorems
pub mod Keeps
pub mod Sequences
