pub mod Right
pub mod Lists
pub mod Methods
pub mod Writes
pub mod Notes
pub mod Grown
