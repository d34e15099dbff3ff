-- The encoding form UTF-8.
pub mod Utf16Lanes
pub mod Utf8
pub mod Private
