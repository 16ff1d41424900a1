pub mod Guards
pub mod Stages
