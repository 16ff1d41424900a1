pub mod Waiters
pub mod Rule
pub mod Laws
pub mod Seats
pub mod Steps
pub mod Tries
