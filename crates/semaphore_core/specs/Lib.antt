pub mod Courses
pub mod Semaphores
pub mod Entries
pub mod Queues
pub mod Receipts
pub mod Outcomes
