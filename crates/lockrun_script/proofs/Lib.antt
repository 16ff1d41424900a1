pub mod Lines
pub mod Maker
pub mod Numbers
pub mod Names
pub mod Calls
pub mod Asks
