pub mod Examples
pub mod Finite
pub mod Order
pub mod Range
pub mod Rounding
pub mod Sums
pub mod Theorem
pub mod Units
