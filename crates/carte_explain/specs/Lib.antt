pub mod Nodes
pub mod Paths
pub mod Why
pub mod Found
