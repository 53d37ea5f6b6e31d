pub mod Classes
pub mod Points
pub mod Statements
pub mod Files
pub mod Walks
