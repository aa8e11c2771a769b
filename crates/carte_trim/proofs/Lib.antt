pub mod Trims
mod Ranks
mod Steps
mod Once
mod Cutting
mod Files
mod Running
mod Due
mod Digits
mod HistoryTrims
