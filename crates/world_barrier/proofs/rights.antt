-- What is known by the answers alone.
pub mod Rights
