pub mod Each
pub mod Spellings
pub mod Parts
pub mod Laws
pub mod Lengths
