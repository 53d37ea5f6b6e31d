pub mod Nothing
pub mod Suffixes
pub mod Top
