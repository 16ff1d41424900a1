-- Whole calls: how many steps they take, and what they promise.
pub mod Whole
pub mod Promises
