pub mod Compare
pub mod Cases
pub mod Order
pub mod Find
