pub mod Trees
pub mod Rows
pub mod Weights
pub mod Loads
pub mod Ranks
pub mod LoadLends
