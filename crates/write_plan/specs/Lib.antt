pub mod Size
pub mod Parts
pub mod Bounds
