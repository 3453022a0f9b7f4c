pub mod Edges
pub mod ReadOut
pub mod Cases
