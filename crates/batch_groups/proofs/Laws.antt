pub mod Back
pub mod Groups
pub mod Order
