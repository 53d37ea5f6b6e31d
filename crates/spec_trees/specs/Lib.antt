pub mod Words
pub mod Links
pub mod Terms
pub mod Clauses
pub mod Height
