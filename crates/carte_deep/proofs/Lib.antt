pub mod Crossing
mod Places
mod Begun
mod Holds
