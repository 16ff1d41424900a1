-- How the table moves, and how it is seen.
pub mod Begun
pub mod Stages
pub mod Calls
pub mod Kept
pub mod Views
pub mod Opening
