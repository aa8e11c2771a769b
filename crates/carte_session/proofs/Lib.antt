pub mod LineLemmas
pub mod SessionLemmas
pub mod SessionLaws
pub mod Leaves
pub mod Seeing
pub mod Staying
