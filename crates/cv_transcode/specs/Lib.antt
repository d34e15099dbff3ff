-- Conversions from one Unicode form to another.
pub mod Runs
pub mod Private
