pub mod Leading
pub mod Closing
pub mod Resuming
pub mod Standing
pub mod Settled
pub mod Recalling
pub mod Ahead
pub mod Sending
