-- What the contracts of private functions cite. No public contract cites these pages.
pub mod Opening
pub mod Changes
pub mod Stages
pub mod Replying
