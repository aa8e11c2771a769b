pub mod Fresh
pub mod Jobs
pub mod Laws
