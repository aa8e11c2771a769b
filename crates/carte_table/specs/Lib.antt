pub mod Lookups
pub mod Changes
pub mod Places
pub mod DigestKeys
pub mod Steps
pub mod KeyPlaces
pub mod Latest
