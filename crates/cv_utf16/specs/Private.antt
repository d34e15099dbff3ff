-- What the contracts of private functions say, which no public contract cites.
pub mod AnyState
pub mod Parts
pub mod Forms
pub mod SurrogatePairs
