-- What whoever builds on a mutex may rest on.
pub mod Rosters
pub mod Holders
pub mod Callers
pub mod AloneSeen
pub mod Released
pub mod Begun
pub mod Silent
pub mod Hearing
pub mod Ending
