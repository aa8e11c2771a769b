pub mod Puts
pub mod Ruled
mod Slots
pub mod Cores
pub mod Turning
pub mod Keys
pub mod Places
pub mod Ways
pub mod Whys
