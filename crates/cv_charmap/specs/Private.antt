pub mod Runs
pub mod Seen
pub mod Covers
