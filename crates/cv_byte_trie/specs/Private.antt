pub mod Blocks
pub mod Sound
pub mod Growth
pub mod Reading
pub mod Comparisons
pub mod Indexed
