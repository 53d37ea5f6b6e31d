-- What is claimed of statements.
use Rattle.std.specs.Prelude.{◌≡◌, ℕ, List, Bool}
use Rattle.java_syntax.specs.declared.statement.Stmt.{Stmt, out-Stmt}
use Rattle.token_reading.specs.Lexeme.{Lexeme}
use Rattle.java_syntax.specs.Stmts.{is_declaration, StmtWithin}
use Rattle.java_reading.specs.Lookahead.{is_local}

-- No two statements stand at the front of the same tokens, whatever stands after them.
abbrev pub OneStatement : Type 0
OneStatement = (n m : ℕ) (in_block : Bool) (s t : Stmt) (xs ys zs : List Lexeme) → StmtWithin n in_block s xs ys → StmtWithin m in_block t xs zs
    → (s ≡ t) × (ys ≡ zs)

-- The look-ahead sees a declaration exactly where the statement is one.
abbrev pub SeesDeclarations : Type 0
SeesDeclarations = (n : ℕ) (in_block : Bool) (t : Stmt) (xs rest : List Lexeme) → StmtWithin n in_block t xs rest
    → is_local xs ≡ is_declaration (out-Stmt t)
