pub mod Means
pub mod Agrees
pub mod Scopes
pub mod Starts
