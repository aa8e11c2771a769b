pub mod Bests
pub mod Sums
pub mod Lined
pub mod Pairs
