pub mod Chunks
pub mod Lists
pub mod Wholes
