pub mod Courses
pub mod Locks
pub mod Cells
pub mod Outcomes
