pub mod PlaceLemmas
pub mod OnlyProgram
pub mod RefusalLemmas
