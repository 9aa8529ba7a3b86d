pub mod Places
pub mod Starts
pub mod Fits
pub mod Records
pub mod ReadBack
pub mod WriteBack
pub mod RoundTrip
