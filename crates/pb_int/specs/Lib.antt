pub mod Int32
pub mod Laws
