pub mod Cases
pub mod List
pub mod Table
