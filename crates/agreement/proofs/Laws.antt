pub mod Changed
pub mod Heading
pub mod Index
pub mod OutBytes
pub mod SameEdges
