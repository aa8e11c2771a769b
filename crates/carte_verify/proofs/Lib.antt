mod Tried
mod Holds
