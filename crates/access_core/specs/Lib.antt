pub mod Contents
pub mod Accesses
pub mod Found
