pub mod Condition
pub mod Strings
pub mod Counters
pub mod Keys
pub mod Connection
