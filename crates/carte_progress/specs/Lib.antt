pub mod Counted
pub mod Standing
pub mod Opening
pub mod Progress
pub mod Driven
pub mod Reasons
