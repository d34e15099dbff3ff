pub mod Machine
pub mod Isolation
