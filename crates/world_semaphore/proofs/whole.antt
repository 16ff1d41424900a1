-- Whole calls: how many steps they take, and what they promise.
pub mod Whole
pub mod Onwards
pub mod Covers
pub mod Passing
pub mod Handing
pub mod Promises
