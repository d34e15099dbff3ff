pub mod ItemSteps
pub mod ReadSteps
pub mod SixteenDigits
pub mod WriteSteps
pub mod Groups
