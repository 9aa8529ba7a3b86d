pub mod Read
pub mod Edited
