pub mod Seats
pub mod Tally
pub mod Machine
pub mod Ranks
pub mod Stays
