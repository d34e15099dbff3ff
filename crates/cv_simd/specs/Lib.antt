-- Kernels over vectors. They exist for speed: no contract of a codec cites them.
pub mod Compressed
pub mod Splits
pub mod ByteClasses
