pub mod Whole
pub mod Bits
pub mod Digits
pub mod Totals
