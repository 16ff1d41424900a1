pub mod laws
pub mod stages
pub mod falls
pub mod solo_polls
