pub mod Owned
pub mod WrittenFrames
pub mod TwoStages
pub mod Changes
pub mod Stepping
pub mod Descriptors
pub mod Converting
pub mod OpeningSteps
pub mod Leaving
pub mod Counting
pub mod Answered
pub mod Replying
mod OneAnswer
mod Retried
mod SomeAnswer
mod OtherOps
mod KeepsTables
mod NotAlone
mod Memory
mod JoinedParts
mod StartAgain
mod NamesBack
mod FormsStay
mod FedCalls
mod FeedSteps
mod FramesFit
mod Feeding
mod Stateless
