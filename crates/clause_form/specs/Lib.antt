pub mod Clauses
pub mod Derivation
pub mod Dimacs
