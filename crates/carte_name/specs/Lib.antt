pub mod Names
pub mod Fronts
pub mod Prefixes
pub mod Kinds
pub mod Places
