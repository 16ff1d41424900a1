pub mod Keeping
pub mod Listed
pub mod Returning
