pub mod Sections
pub mod File
pub mod Answers
pub mod Demand2
