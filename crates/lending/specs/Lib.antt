pub mod Ends
pub mod Phases
pub mod Rule
