pub mod NumberingLemmas
pub mod ScopeLemmas
pub mod ChosenLemmas
pub mod BeginningLemmas
pub mod RefusalLemmas
