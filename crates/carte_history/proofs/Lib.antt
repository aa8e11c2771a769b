pub mod Showing
pub mod Stretches
pub mod Lines
pub mod Going
pub mod Doing
pub mod Promising
