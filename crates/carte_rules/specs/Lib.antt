pub mod Tables
pub mod Reading
pub mod Steps
pub mod Drafts
pub mod Found
pub mod Entries
pub mod Orders
