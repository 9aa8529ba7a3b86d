pub mod Text
pub mod Tokens
