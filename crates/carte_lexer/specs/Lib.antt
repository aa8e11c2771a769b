pub mod Tokens
pub mod Lexer
pub mod Runs
pub mod Takes
pub mod Longest
pub mod Kinds
pub mod Widths
pub mod Ranges
