pub mod Characters
pub mod Faults
pub mod Lexemes
pub mod Places
pub mod Reading
pub mod Spelling
pub mod Tokens
