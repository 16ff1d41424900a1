-- What always holds.
pub mod CanDo
pub mod Rows
pub mod Listed
pub mod Told
pub mod Kept
pub mod Laws
pub mod New
