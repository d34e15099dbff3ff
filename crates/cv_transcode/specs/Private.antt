-- What the contracts of private functions say, which no public contract cites.
pub mod Slack
pub mod Windows
