mod Prelude
pub mod of_machine
pub mod Numbers
pub mod table
pub mod step
pub mod Leaders
pub mod Counted
pub mod laws
pub mod rights
pub mod whole
pub mod bound
