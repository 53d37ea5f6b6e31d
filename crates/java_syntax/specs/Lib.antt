pub mod Exprs
pub mod Stmts
pub mod Classes
pub mod Spells
pub mod Height
