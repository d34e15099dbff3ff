-- The encoding forms UTF-16 and UTF-32.
pub mod Orders
pub mod KeptStates
pub mod Utf16
pub mod Utf32
pub mod Private
