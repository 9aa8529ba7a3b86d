pub mod Flags
pub mod Judgement
