pub mod GrowsLemmas
pub mod HeldLemmas
pub mod WovenLemmas
