mod WorkedCases
pub mod PutsLemmas
pub mod NoPutsLemmas
