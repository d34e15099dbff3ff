pub mod Routes
pub mod Answers
pub mod Asking
