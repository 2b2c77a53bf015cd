pub mod Committing
pub mod Due
pub mod Group
pub mod Working
