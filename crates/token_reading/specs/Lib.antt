pub mod Lexeme
pub mod Types
pub mod Height
pub mod Places
pub mod Outcome
pub mod ReadType
pub mod Reads
