pub mod Answer
pub mod Nests
