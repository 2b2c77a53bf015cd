pub mod Apart
pub mod Marks
pub mod Ordered
pub mod SlideLemmas
pub mod Stack
