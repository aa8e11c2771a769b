pub mod Latest
pub mod Contents
pub mod Live
pub mod Laws
pub mod Lengths
pub mod Rewriting
pub mod Due
