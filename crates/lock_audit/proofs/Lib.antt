pub mod Replaying
pub mod Counting
