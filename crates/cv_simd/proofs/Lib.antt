pub mod TableRows
pub mod CompressedNumbers
pub mod CompressedPairs
pub mod CompressedTriples
pub mod SplitRows
pub mod SplitStarts
pub mod ClassLanes
pub mod StopBits
