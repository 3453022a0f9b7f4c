pub mod Footer
pub mod Payload
