pub mod Ends
pub mod Serving
pub mod Replying
pub mod Private
pub mod Laws
