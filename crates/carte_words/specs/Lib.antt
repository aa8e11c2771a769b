pub mod Arguments
pub mod Tables
pub mod Numbers
pub mod Words
pub mod Parsed
pub mod Cuts
pub mod Lines
pub mod Named
