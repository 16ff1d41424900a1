-- What always holds of a pool's World.
pub mod Sound
pub mod Rights
pub mod Bounds
pub mod WorldLaws
