pub mod Cases
pub mod Fault
pub mod Good
pub mod Group
pub mod Written
pub mod Wrong
