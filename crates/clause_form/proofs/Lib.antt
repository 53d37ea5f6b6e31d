pub mod Members
pub mod Chains
pub mod Adding
pub mod Putting
