pub mod Known
pub mod Batches
pub mod OneBatch
pub mod Replying
pub mod Flows
pub mod Streams
pub mod Headline
mod Ranges
mod FirstServed
mod SomeService
