pub mod Accepting
pub mod Admin
pub mod Calling
pub mod Counting
pub mod Ends
pub mod Faults
pub mod Listening
pub mod Ticks
