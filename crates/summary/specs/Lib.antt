pub mod Summary
pub mod Bits
pub mod Tally
pub mod Logs
pub mod Marked
pub mod Promise
