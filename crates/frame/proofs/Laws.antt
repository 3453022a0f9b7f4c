pub mod Cases
pub mod Frame
pub mod Given
pub mod Header
pub mod Kind
pub mod Open
pub mod Reserved
pub mod Starts
