mod Rows
mod Parses
mod Naming
mod Numerals
mod Cutting
mod Trims
mod Commands
pub mod Meanings
pub mod NamedLemmas
