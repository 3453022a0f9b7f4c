pub mod Kind
pub mod Frame
pub mod Opening
pub mod Open
pub mod Given
pub mod Header
pub mod Reserved
pub mod Layout
