pub mod Every
pub mod Judging
mod Places
