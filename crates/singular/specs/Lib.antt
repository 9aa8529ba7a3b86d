pub mod Ends
pub mod Noted
