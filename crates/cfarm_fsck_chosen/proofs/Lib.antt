pub mod ChosenLemmas
pub mod LinkingLemmas
