-- Pages of characters. They exist for speed: no contract of a codec cites them.
pub mod Paging
pub mod InlineBytes
pub mod Private
