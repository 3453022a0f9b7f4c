pub mod Full
pub mod Marks
pub mod Checked
pub mod Given
pub mod Starts
pub mod Cases
