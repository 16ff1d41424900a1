-- Whole calls: how many steps they take, and what they promise.
pub mod Served
pub mod Locked
pub mod Alone
pub mod Walks
pub mod Comes
pub mod Polls
pub mod Handing
pub mod Patient
pub mod Ring
pub mod Newcomers
pub mod Counted
pub mod Promises
pub mod Whole
