pub mod Written
pub mod Fine
