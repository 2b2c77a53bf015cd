pub mod Superblock
pub mod Tag
pub mod Tagged
pub mod Entry
pub mod Shape
pub mod Put
pub mod Version
pub mod Versions
