pub mod Wholes
pub mod Steps
pub mod Widths
pub mod Joins
pub mod Comparisons
pub mod Sums
pub mod Products
