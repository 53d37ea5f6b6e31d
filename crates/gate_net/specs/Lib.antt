pub mod Encoding
pub mod Net
