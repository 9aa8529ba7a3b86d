pub mod ImportLines
