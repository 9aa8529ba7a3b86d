pub mod Lists
pub mod Ends
pub mod Noting
pub mod Singular
pub mod Theorem
pub mod Cases
