pub mod BaseLemmas
pub mod CallLemmas
pub mod KnownLemmas
