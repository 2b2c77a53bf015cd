pub mod Holding
pub mod Limits
