pub mod PairLemmas
pub mod PairSteps
pub mod PrintedLemmas
pub mod StatusLemmas
