pub mod Going
pub mod Asking
pub mod Outbound
pub mod Session
pub mod Running
