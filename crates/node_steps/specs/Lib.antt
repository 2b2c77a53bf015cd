pub mod Acts
pub mod Clauses
pub mod Committing
pub mod GroupSpan
pub mod Law
pub mod Node
pub mod Orders
pub mod Others
