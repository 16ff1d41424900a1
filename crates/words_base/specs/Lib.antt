pub mod Sums
pub mod MutexWord
pub mod Tries
pub mod Waiting
pub mod Lists
