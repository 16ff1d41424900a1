-- What whole calls come to.
pub mod Free
pub mod Acquiring
pub mod Locking
pub mod Promises
