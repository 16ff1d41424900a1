-- What one step may do, and what it decides.
pub mod Fair
pub mod Courses
pub mod Rows
pub mod Legal
pub mod Promised
pub mod Sights
pub mod Asked
pub mod Untold
pub mod Long
pub mod InTurn
pub mod Clauses
pub mod Told
