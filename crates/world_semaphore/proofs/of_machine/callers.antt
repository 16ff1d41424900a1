-- What those see of a semaphore who build on one.
pub mod Sights
pub mod Rows
pub mod Openings
pub mod Clauses
pub mod AtOnce
pub mod Laws
pub mod Steps
pub mod Alone
pub mod InVain
