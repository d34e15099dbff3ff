pub mod Results
pub mod Plain
