pub mod Pick
pub mod Over
pub mod Put
pub mod Bytes
