mod StreamLemmas
mod MemDiskLemmas
mod CrashLemmas
pub mod Images
pub mod Torn
pub mod Writes
pub mod Acknowledged
