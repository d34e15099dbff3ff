pub mod Powers
pub mod Meeting
pub mod PairLists
pub mod FirstFaults
pub mod LineKinds
pub mod RunMeaning
pub mod EntryLemmas
pub mod Counting
pub mod FitEntries
pub mod MeaningLaws
pub mod Covering
pub mod Running
pub mod Ranging
pub mod ReaderSteps
mod Examples
