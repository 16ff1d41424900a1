pub mod Texts
pub mod StateTexts
pub mod Reading
pub mod Scripts
pub mod Plays
pub mod Faults
