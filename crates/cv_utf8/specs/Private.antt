-- Definitions that contracts of private functions cite, and no public contract.
pub mod Utf8Bytes
pub mod Utf8Short
pub mod Utf8Threes
pub mod TwoByte
pub mod ThreeByte
pub mod Utf8Windows
pub mod Utf8Long
