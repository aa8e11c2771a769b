pub mod Planned
pub mod Cuts
pub mod Ahead
