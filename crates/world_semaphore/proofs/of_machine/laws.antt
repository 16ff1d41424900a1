-- What always holds.
pub mod Steps
pub mod Entries
pub mod Effects
pub mod Kept
pub mod CanDo
pub mod Locks
pub mod Laws
pub mod New
