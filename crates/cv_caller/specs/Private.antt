pub mod Uploaded
pub mod Views
