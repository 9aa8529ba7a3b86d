pub mod FileConcat
