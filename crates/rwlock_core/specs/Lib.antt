pub mod Courses
pub mod Outcomes
pub mod Parties
pub mod Vain
