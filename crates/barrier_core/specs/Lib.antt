pub mod Courses
pub mod Barriers
pub mod Lists
pub mod Counts
pub mod Locking
pub mod Outcomes
pub mod Rejoining
