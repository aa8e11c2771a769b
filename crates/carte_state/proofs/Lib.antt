pub mod Folds
pub mod Olds
pub mod Beginnings
pub mod Applies
pub mod Putting
pub mod Writing
pub mod Runs
mod Reading
mod Beside
pub mod History
pub mod Rewritings
