pub mod Counts
pub mod Puts
pub mod Putting
pub mod Reading
pub mod Places
