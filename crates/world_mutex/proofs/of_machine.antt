pub mod laws
pub mod legal
pub mod falls
pub mod solo_polls
pub mod callers
