pub mod Standing
pub mod Runs
