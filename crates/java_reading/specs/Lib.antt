pub mod Lookahead
pub mod ReadExpr
pub mod ReadStmt
pub mod ReadClass
pub mod ExprLaws
pub mod StmtLaws
pub mod FileLaws
