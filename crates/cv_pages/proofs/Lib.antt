pub mod FirstIndices
pub mod ReadyBytes
pub mod AnyBits
