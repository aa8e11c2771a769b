pub mod Marks
pub mod True
pub mod Sound
pub mod Up
