pub mod Served
pub mod Follower
