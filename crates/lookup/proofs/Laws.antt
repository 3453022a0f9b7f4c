pub mod Calls
pub mod Cases
pub mod Given
pub mod Groups
pub mod Lookup
pub mod Record
pub mod Starts
