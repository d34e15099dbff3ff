pub mod Charmaps
pub mod Private
