pub mod KeyNames
pub mod Made
pub mod Formulas
