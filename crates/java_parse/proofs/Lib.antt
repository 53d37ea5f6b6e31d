pub mod Nothing
pub mod Top
