mod Examples
pub mod Doubled
pub mod Parts
pub mod Commas
pub mod Once
pub mod Turns
pub mod StaticRuns
