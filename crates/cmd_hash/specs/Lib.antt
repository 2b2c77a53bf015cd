pub mod Hash
pub mod Reading
pub mod Whole
pub mod Writing
pub mod Counter
