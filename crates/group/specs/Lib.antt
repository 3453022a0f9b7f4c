pub mod Fault
pub mod Group
pub mod Written
pub mod Good
pub mod Wrong
