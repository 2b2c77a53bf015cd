pub mod AdmissionLemmas
pub mod StandingLemmas
pub mod RefusalLemmas
pub mod RunningLemmas
pub mod StoreLemmas
pub mod FinishedLemmas
pub mod AnswersLemmas
mod SeatsLemmas
mod MarkingLemmas
pub mod BegunLemmas
pub mod ListedLemmas
pub mod ExpectingLemmas
pub mod LeadingLemmas
pub mod ReturningLemmas
pub mod CopyLemmas
pub mod CopiedLemmas
