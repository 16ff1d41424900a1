pub mod Ends
pub mod Stages
pub mod Tables
pub mod Resting
pub mod Worlds
pub mod Views
pub mod Rights
pub mod Lending
