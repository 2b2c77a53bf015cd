pub mod DueLemmas
pub mod FreedLemmas
pub mod GroupsLemmas
pub mod TakingLemmas
pub mod TurnLemmas
pub mod WorkLemmas
