pub mod Declarations
pub mod Constants
pub mod Bodies
pub mod Files
pub mod Answers
pub mod Gathered
