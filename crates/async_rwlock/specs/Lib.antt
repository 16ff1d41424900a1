pub mod Guards
pub mod Lent
pub mod Noted
pub mod Stages
pub mod Upgrades
