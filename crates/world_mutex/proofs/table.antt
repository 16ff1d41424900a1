-- What stands behind the World, as callers see it.
pub mod Turns
pub mod Acts
pub mod Carrying
pub mod Seen
pub mod Opening
