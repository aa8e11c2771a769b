pub mod Answering
pub mod Driving
pub mod Binding
pub mod Stack
pub mod Coding
pub mod Shapes
pub mod Links
pub mod Keeping
pub mod Mentioning
pub mod Stepping
pub mod Linking
pub mod Once
pub mod Filling
pub mod Readings
mod Giving
mod Silent
