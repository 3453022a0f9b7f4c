pub mod Fit
pub mod Rows
pub mod Header
pub mod Compared
