pub mod Calls
pub mod Program
pub mod Words
pub mod Effects
pub mod Parties
pub mod Turns
pub mod Carried
