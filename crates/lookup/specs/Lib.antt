pub mod Lookup
pub mod Record
pub mod Groups
pub mod Calls
pub mod Given
pub mod Starts
