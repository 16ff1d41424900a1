-- How often the lock of the list may be passed over.
pub mod Bound
