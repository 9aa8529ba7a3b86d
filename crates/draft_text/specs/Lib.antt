pub mod Gathering
pub mod TextPattern
