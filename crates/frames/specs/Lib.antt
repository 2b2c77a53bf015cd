pub mod Copy
pub mod Joining
