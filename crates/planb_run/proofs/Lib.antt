pub mod Parts
pub mod Digits
pub mod PlainWords
pub mod Characters
pub mod Sources
pub mod Loading
pub mod Executing
pub mod Obeying
mod CommandRows
mod ReportRows
