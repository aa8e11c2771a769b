pub mod Frames
pub mod Journals
pub mod Ready
pub mod Regions
pub mod Runs
