pub mod MoveLaws
pub mod RootLaws
pub mod TurnLaws
