pub mod Effects
pub mod Statements
pub mod Outcomes
