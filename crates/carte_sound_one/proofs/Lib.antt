pub mod Raised
pub mod Up
