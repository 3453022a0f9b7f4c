pub mod Chunks
pub mod Running
