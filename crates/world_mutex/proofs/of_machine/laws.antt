-- What always holds.
pub mod Steps
pub mod Kept
pub mod Effects
pub mod Parties
pub mod CanDo
pub mod Locks
pub mod Owners
pub mod Starts
pub mod Laws
pub mod Seen
pub mod Marks
