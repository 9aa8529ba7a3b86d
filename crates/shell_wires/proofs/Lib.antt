pub mod Facts
pub mod Laws
pub mod Made
pub mod Held
