pub mod Types
pub mod Library
pub mod Lookups
pub mod Members
pub mod Denotes
pub mod Known
pub mod Sides
