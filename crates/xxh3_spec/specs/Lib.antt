pub mod Xxh3
pub mod Vectors
