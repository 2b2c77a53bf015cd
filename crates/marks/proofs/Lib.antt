pub mod Gauges
pub mod Holders
pub mod Keeps
pub mod Seats
