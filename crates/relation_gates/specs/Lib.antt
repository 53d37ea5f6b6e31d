pub mod Relations
pub mod Sets
