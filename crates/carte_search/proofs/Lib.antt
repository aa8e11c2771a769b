pub mod Trails
pub mod Places
pub mod Searching
pub mod FirstPaths
pub mod Linked
pub mod Loops
pub mod Picking
