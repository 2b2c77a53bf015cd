mod AgainLemmas
mod ClosingLemmas
mod EndingLemmas
mod HereOrLent
mod InHandLemmas
mod BehindSteps
mod KeepingLemmas
mod LinkingLemmas
mod NeedLemmas
mod NeedTurns
mod PastLemmas
pub mod PlacesLemmas
pub mod StepsLemmas
mod TendingLemmas
mod TurnsEnd
pub mod TurnsLemmas
mod VisitLemmas
mod StepActs
mod FetchLemmas
mod VisitActs
mod PinLemmas
mod CopyLemmas
mod RoundActs
