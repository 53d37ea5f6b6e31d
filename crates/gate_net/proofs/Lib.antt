pub mod GateClauses
pub mod Growth
pub mod Meaning
pub mod Values
