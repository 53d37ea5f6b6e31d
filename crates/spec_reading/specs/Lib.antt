pub mod ReadLink
pub mod ReadTerm
pub mod ReadContract
pub mod Lookahead
pub mod TermLaws
pub mod ContractLaws
pub mod SpecLaws
