pub mod Wires
pub mod Stored
pub mod Answer
pub mod Store
