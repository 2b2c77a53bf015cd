pub mod Copying
pub mod Stream
pub mod Sent
pub mod Delta
pub mod Leading
pub mod Outgoing
