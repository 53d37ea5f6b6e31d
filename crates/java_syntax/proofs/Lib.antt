pub mod ExprHeights
pub mod StmtHeights
