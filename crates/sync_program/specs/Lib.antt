pub mod ReadWrite
pub mod OnceCell
pub mod Barrier
pub mod Permits
