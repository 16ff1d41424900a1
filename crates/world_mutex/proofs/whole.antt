-- Whole calls: how many steps they take, and what they promise.
pub mod Whole
pub mod Patient
pub mod Ring
pub mod FirstPolls
pub mod Newcomers
pub mod Takers
pub mod Promises
