pub mod Unique
pub mod Printing
pub mod Putting
pub mod Clearing
pub mod Books
pub mod Lacking
pub mod Serving
pub mod Between
pub mod Requesting
pub mod Sounds
pub mod BuildsDue
pub mod Completing
pub mod Commands
pub mod Outcomes
pub mod HistoryRuns
pub mod Plain
mod Bare
