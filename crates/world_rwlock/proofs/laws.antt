-- What always holds.
pub mod Due
pub mod Sound
pub mod WorldLaws
