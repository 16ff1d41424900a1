-- What stands behind a pool's World, as callers see it.
pub mod Seen
pub mod Opening
