pub mod Drives
pub mod Parts
pub mod Front
pub mod Waves
pub mod Settling
pub mod Standing
pub mod Laws
