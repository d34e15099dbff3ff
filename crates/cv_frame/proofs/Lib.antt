pub mod Cuts
pub mod RestFronts
pub mod ReadBack
