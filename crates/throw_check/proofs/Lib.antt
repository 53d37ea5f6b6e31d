pub mod PointLemmas
pub mod StatementLemmas
pub mod Rows
pub mod LeftLemmas
pub mod CallLemmas
pub mod ScopeLemmas
pub mod FieldLemmas
pub mod FileLemmas
