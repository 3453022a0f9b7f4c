pub mod Cases
pub mod Demand3
pub mod Strip
pub mod Stripped
pub mod Whole
