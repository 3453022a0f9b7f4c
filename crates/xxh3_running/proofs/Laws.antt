pub mod Cases
pub mod Chunks
pub mod Running
pub mod RunningSums
