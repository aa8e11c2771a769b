pub mod Tables
pub mod Puts
pub mod Reached
pub mod Passes
pub mod Marking
pub mod Bases
pub mod Watching
