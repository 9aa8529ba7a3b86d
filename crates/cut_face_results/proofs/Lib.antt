pub mod Few
pub mod Results
