pub mod PatternLines
