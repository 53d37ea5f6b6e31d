pub mod Ascii
pub mod Encoding
pub mod Joined
