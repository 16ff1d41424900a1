-- Solo polls in turn.
pub mod Alone
pub mod AloneSeen
pub mod Bound
pub mod InTurn
pub mod Overtaking
pub mod Ending
pub mod Patience
pub mod Drains
