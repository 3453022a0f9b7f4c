pub mod Three
pub mod Ids
pub mod Asked
