-- What stands behind the World, as callers see it.
pub mod Seen
pub mod Opening
