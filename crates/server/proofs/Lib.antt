pub mod AnsweringLemmas
pub mod FollowerLemmas
pub mod ServingLemmas
