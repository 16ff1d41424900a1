-- Solo polls in turn.
pub mod Alone
pub mod AloneSeen
pub mod Sure
pub mod Bound
pub mod Counted
pub mod Behind
pub mod InTurn
pub mod Ending
pub mod Waking
pub mod Patience
pub mod Overtaking
