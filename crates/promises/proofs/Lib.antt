pub mod Demand1
pub mod Refusals
pub mod Calls
pub mod Laws
