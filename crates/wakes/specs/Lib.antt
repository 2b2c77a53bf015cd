pub mod Thread
pub mod Waiting
pub mod Place
