pub mod Stripped
pub mod Strip
pub mod Whole
pub mod Demand3
