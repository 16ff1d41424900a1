mod Prelude
pub mod of_queue
pub mod Alike
pub mod Bounds
pub mod Overtaking
pub mod Ending
pub mod Patience
pub mod Draining
pub mod OneMarked
pub mod Equations
pub mod Rests
pub mod Lists
pub mod Owing
pub mod Marks
pub mod of_any_world
pub mod of_table
