pub mod Places
pub mod Following
