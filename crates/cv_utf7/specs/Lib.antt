pub mod Sets
pub mod BitLists
pub mod PendingBits
pub mod Utf7
pub mod Private
