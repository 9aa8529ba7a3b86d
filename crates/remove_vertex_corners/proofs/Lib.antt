pub mod Endings
pub mod Flagging
pub mod Places
pub mod Wires
