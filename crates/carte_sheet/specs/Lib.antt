pub mod Reading
pub mod Places
pub mod Drafts
pub mod Steps
