pub mod Spots
pub mod Rules
pub mod Steps
pub mod Held
pub mod Keys
pub mod Turns
pub mod Waits
pub mod Ended
