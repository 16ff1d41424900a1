pub mod Futures
