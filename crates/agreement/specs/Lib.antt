pub mod SameEdges
pub mod Changed
pub mod OutBytes
pub mod Heading
