pub mod Slots
pub mod Follow
pub mod Keeping
pub mod Passes
pub mod Wide
