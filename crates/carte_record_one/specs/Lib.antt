pub mod Lookups
pub mod Kept
pub mod Marked
pub mod Folds
pub mod Bodies
pub mod BodyLaws
pub mod Growth
