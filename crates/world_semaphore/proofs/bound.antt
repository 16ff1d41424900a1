-- Solo polls in turn.
pub mod Bound
pub mod Ending
pub mod Drains
