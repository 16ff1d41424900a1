-- What always holds.
pub mod Steps
pub mod Fits
pub mod Places
pub mod Lines
pub mod Kept
pub mod Marks
pub mod Machines
pub mod CanDo
pub mod Finds
pub mod New
pub mod Laws
