pub mod Rounds
pub mod One
