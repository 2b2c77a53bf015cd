pub mod Gate
pub mod Parts
pub mod Woven
