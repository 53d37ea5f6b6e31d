pub mod Cells
pub mod Closed
pub mod Nested
pub mod Sound
pub mod WorkedHeaps
