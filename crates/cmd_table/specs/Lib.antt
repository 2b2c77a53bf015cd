pub mod Row
pub mod Misuse
pub mod Command
pub mod Meaning
pub mod Request
pub mod Puts
