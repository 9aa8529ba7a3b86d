pub mod Command
pub mod Queue
