pub mod Values
pub mod Read
pub mod OnFile
