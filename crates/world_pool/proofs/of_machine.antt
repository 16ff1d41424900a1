-- The machine keeps what always holds of it.
pub mod Starts
pub mod Links
pub mod Lands
pub mod Falls
pub mod Items
pub mod Seats
pub mod Limits
pub mod Kept
