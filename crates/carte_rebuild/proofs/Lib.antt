pub mod Behind
pub mod Crossing
mod Begun
pub mod Trials
pub mod Parting
pub mod Comparing
pub mod TaskRuns
pub mod TaskAlone
pub mod Wholes
pub mod TracedChecks
pub mod TracedJobs
pub mod TracedKeys
pub mod TracesOf
pub mod Starting
pub mod Gathered
pub mod Finishing
pub mod Often
pub mod SetBack
pub mod Tasked
mod Collecting
mod Driven
mod OwnDigest
