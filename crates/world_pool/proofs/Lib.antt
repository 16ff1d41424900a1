mod Prelude
pub mod of_machine
pub mod table
pub mod step
pub mod laws
pub mod whole
pub mod bound
