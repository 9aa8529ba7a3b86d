pub mod Wires
pub mod Named
pub mod OfWire
