pub mod Unique
pub mod Causes
pub mod Outcomes
mod Drafts
mod Cells
mod Fields
mod Records
mod RowLemmas
mod RowTurns
