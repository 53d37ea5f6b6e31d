pub mod World
pub mod Values
pub mod Objects
pub mod Calls
pub mod Evaluate
pub mod Execute
pub mod Run
