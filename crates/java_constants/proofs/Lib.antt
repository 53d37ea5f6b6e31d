pub mod FoldedLemmas
