pub mod Anew
pub mod Going
pub mod Straight
pub mod Led
pub mod Chained
pub mod Ending
pub mod Totals
pub mod Schedule
