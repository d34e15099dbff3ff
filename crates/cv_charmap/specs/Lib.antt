pub mod Entries
pub mod Headers
pub mod Lists
pub mod Meaning
pub mod Maps
pub mod Results
pub mod Private
