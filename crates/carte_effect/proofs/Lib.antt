pub mod More
mod Lists
mod Pairs
