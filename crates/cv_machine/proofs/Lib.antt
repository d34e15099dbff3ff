pub mod Runs
pub mod Isolation
pub mod Outcomes
pub mod Begun
