pub mod Moves
pub mod Roots
pub mod Found
pub mod Turns
