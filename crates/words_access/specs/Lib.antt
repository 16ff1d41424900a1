pub mod Rule
pub mod Laws
pub mod Seats
pub mod Steps
