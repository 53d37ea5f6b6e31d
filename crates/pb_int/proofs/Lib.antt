pub mod Wraps
pub mod Quotients
pub mod Shifts
pub mod TwosComplement
