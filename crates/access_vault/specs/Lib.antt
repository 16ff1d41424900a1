pub mod Rounds
pub mod Vault
pub mod Kept
pub mod Lent
