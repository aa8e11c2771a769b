pub mod Raising
pub mod Firsts
pub mod Once
pub mod Migrated
