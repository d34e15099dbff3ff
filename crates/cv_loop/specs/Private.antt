-- What the contracts of private functions cite. No public contract cites these pages.
pub mod Batches
pub mod Buffers
pub mod Draining
