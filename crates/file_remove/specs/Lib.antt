pub mod FileRemove
