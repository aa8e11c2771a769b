pub mod Orders
pub mod Walk
pub mod Between
pub mod Dynamic
pub mod Building
