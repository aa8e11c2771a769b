pub mod Each
pub mod Tasks
pub mod Cleared
