pub mod Bytes
pub mod Message
pub mod Puts
pub mod Reading
pub mod Scanning
pub mod Shown
pub mod Stepping
pub mod Stream
