pub mod Entries
pub mod Results
pub mod Runs
pub mod Tries
pub mod Tables
pub mod Walks
pub mod Index
pub mod Private
