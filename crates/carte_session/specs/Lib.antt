pub mod Around
pub mod Carried
pub mod Laws
pub mod Leaving
pub mod Lines
pub mod Session
pub mod Staying
