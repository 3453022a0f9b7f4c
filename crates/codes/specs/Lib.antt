pub mod Little
pub mod Ids
pub mod Varint
pub mod NoNumber
pub mod Stood
