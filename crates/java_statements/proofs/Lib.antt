pub mod Rows
pub mod ListLemmas
pub mod EffectLemmas
pub mod FaultLemmas
