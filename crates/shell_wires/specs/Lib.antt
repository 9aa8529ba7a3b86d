pub mod ShellWires
pub mod Flags
pub mod Lent
