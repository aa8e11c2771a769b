mod TasksAhead
pub mod Growing
pub mod Lists
pub mod Leading
pub mod Orders
pub mod Chained
pub mod Pieces
pub mod Along
pub mod PartsCut
pub mod PartsLead
