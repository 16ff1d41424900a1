-- What always holds, and what follows from a step.
pub mod Sound
pub mod WorldLaws
