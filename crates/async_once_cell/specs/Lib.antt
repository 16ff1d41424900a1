pub mod Stages
pub mod Futures
pub mod Closures
pub mod Faults
