pub mod Rows
pub mod Warshall
