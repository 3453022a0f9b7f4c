pub mod Image
pub mod Cases
