pub mod Heaps
pub mod Gathers
pub mod Kept
pub mod Weights
pub mod Loads
pub mod Ranks
