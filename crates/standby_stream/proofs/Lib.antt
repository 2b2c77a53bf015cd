pub mod StreamLemmas
pub mod OpeningLemmas
pub mod DeltaLemmas
pub mod ReadLemmas
pub mod HeldLines
pub mod FitLemmas
pub mod CopyLemmas
pub mod LeadLemmas
