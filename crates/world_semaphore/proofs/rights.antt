-- The rights by the answers alone.
pub mod Rights
