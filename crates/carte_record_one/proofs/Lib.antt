pub mod Bodies
pub mod Growing
