pub mod Contents
pub mod ByName
pub mod Courses
pub mod Cells
pub mod Purposes
pub mod Outcomes
