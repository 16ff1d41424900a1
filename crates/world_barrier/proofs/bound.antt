-- Solo polls in turn.
pub mod Bound
pub mod InTurn
pub mod Ending
pub mod Patience
