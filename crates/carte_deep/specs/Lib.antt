pub mod Holding
pub mod Work
pub mod Jobs
pub mod Laws
