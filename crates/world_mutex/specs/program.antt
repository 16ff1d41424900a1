pub mod Program
pub mod Words
pub mod Carried
pub mod Seats
