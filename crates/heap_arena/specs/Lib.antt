pub mod Heap
pub mod Marks
pub mod State
pub mod Reach
pub mod Changes
