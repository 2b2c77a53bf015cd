pub mod StepLemmas
pub mod GapSteps
pub mod MovedLemmas
pub mod MoveSteps
pub mod Picks
pub mod KnownLemmas
pub mod PlaceLemmas
pub mod LoopLemmas
pub mod LeavingLemmas
pub mod VacatingSteps
pub mod Undamaged
pub mod VacatingImages
mod EndedCopies
mod EndedEntries
mod EndedImages
mod EndedLawful
mod EndedMaps
mod EndedMoments
mod EndedRuns
mod TwoSetsLemmas
pub mod Maps
pub mod Entries
pub mod MovableLemmas
pub mod Touching
pub mod Marks
pub mod Renewing
pub mod SwitchLemmas
pub mod Migratable
pub mod Halfway
pub mod Limits
