pub mod Status
pub mod Texts
pub mod Reply
pub mod Lines
