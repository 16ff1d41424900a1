pub mod Sums
pub mod Exchanges
pub mod MutexWord
pub mod Views
pub mod Waiting
pub mod Matched
pub mod Holding
