pub mod Histories
pub mod Numbers
pub mod Ledgers
