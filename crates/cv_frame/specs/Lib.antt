pub mod Ops
pub mod Sizes
pub mod Message
pub mod Status
pub mod Cut
pub mod Bodies
pub mod Asks
