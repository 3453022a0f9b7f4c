pub mod State
pub mod Stripes
pub mod One
