pub mod Nests
pub mod Answer
