pub mod Limits
pub mod Tables
pub mod Keyed
pub mod Results
pub mod Private
