mod TableLemmas
mod HeldLemmas
mod SessionsLemmas
mod WatchesLemmas
pub mod ModifiedLemmas
mod WorkedCases
mod RunLemmas
