pub mod File
pub mod Head
pub mod Journal
pub mod Laws
pub mod Loss
pub mod Record
pub mod Replay
