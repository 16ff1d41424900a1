pub mod Futures
pub mod Guards
pub mod Lent
