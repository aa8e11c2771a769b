pub mod Digests
pub mod Effects
pub mod Lists
pub mod Sights
pub mod Ledger
pub mod Pairs
pub mod Outcomes
pub mod Jobs
