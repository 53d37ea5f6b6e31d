-- A function value that reads the parts of an expression or of a statement.
use Rattle.std.specs.Prelude.{ℕ, ◌≤◌, Bool, List, Result, IfOk}
use Rattle.std.specs.declared.alloc.Global.{Global}
use denote.Ref.{MutBor}
use Rattle.java_syntax.specs.declared.statement.Stmt.{Stmt}
use Rattle.token_reading.specs.Lexeme.{Lexeme}
use Rattle.java_reading.specs.ReadExpr.{Tall, reading}
use Rattle.java_reading.specs.ReadStmt.{statement}
use Rattle.token_reading.specs.declared.refusal.Refusal.{Refusal}
use Rattle.token_reading.specs.Reads.{Reads}

-- It may be called for expressions of at most this height, and reads what the reading function does.
pub record Nests (height : ℕ) (pre : Global → MutBor (List Lexeme) → ℕ → ℕ → Type 0)
    (post : Global → MutBor (List Lexeme) → ℕ → ℕ → Result Tall Refusal → MutBor (List Lexeme) → Type 0) : Type 0 where
  pub callable : (alloc : Global) (old : MutBor (List Lexeme)) (least : ℕ) → pre alloc old height least
  pub reads : (alloc : Global) (old new : MutBor (List Lexeme)) (least : ℕ) (r : Result Tall Refusal) → post alloc old height least r new
      → Reads (reading height least old.now) r new.now
  pub low : (alloc : Global) (old new : MutBor (List Lexeme)) (least : ℕ) (r : Result Tall Refusal) → post alloc old height least r new
      → IfOk r (λ t. t.1 ≤ height)

-- The same of statements.
pub record NestsStatements (height : ℕ) (pre : Global → MutBor (List Lexeme) → ℕ → Bool → Type 0)
    (post : Global → MutBor (List Lexeme) → ℕ → Bool → Result Stmt Refusal → MutBor (List Lexeme) → Type 0) : Type 0 where
  pub callable : (alloc : Global) (old : MutBor (List Lexeme)) (in_block : Bool) → pre alloc old height in_block
  pub reads : (alloc : Global) (old new : MutBor (List Lexeme)) (in_block : Bool) (r : Result Stmt Refusal) → post alloc old height in_block r new
      → Reads (statement height in_block old.now) r new.now
