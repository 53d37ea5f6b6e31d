pub mod Assigned
pub mod Learning
pub mod Propagation
pub mod Occurrences
pub mod Searching
pub mod Solving
