pub mod Ones
pub mod Twos
pub mod Starts
pub mod Compiled
pub mod Prefixes
pub mod Followed
pub mod Longs
