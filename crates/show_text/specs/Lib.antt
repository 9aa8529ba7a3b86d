pub mod PatternText
pub mod StoreText
