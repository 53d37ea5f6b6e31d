pub mod LinkHeights
pub mod TermHeights
pub mod WordLemmas
