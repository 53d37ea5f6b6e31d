-- A function value that reads the parts of a relation or of a term.
use Rattle.std.specs.Prelude.{ℕ, ◌≤◌, List, Result, IfOk}
use Rattle.std.specs.declared.alloc.Global.{Global}
use denote.Ref.{MutBor}
use Rattle.token_reading.specs.Lexeme.{Lexeme}
use Rattle.token_reading.specs.declared.refusal.Refusal.{Refusal}
use Rattle.token_reading.specs.Reads.{Reads}
use Rattle.spec_reading.specs.ReadLink.{TallLink, read_link}
use Rattle.spec_reading.specs.ReadTerm.{TallTerm, read_term}

-- It may be called for relations of at most this height, and reads what the reading function does.
pub record NestsLinks (height : ℕ) (pre : Global → MutBor (List Lexeme) → ℕ → ℕ → Type 0)
    (post : Global → MutBor (List Lexeme) → ℕ → ℕ → Result TallLink Refusal → MutBor (List Lexeme) → Type 0) : Type 0 where
  pub callable : (alloc : Global) (old : MutBor (List Lexeme)) (least : ℕ) → pre alloc old height least
  pub reads : (alloc : Global) (old new : MutBor (List Lexeme)) (least : ℕ) (r : Result TallLink Refusal) → post alloc old height least r new
      → Reads (read_link height least old.now) r new.now
  pub low : (alloc : Global) (old new : MutBor (List Lexeme)) (least : ℕ) (r : Result TallLink Refusal) → post alloc old height least r new
      → IfOk r (λ t. t.1 ≤ height)

-- The same of terms.
pub record NestsTerms (height : ℕ) (pre : Global → MutBor (List Lexeme) → ℕ → ℕ → Type 0)
    (post : Global → MutBor (List Lexeme) → ℕ → ℕ → Result TallTerm Refusal → MutBor (List Lexeme) → Type 0) : Type 0 where
  pub callable : (alloc : Global) (old : MutBor (List Lexeme)) (least : ℕ) → pre alloc old height least
  pub reads : (alloc : Global) (old new : MutBor (List Lexeme)) (least : ℕ) (r : Result TallTerm Refusal) → post alloc old height least r new
      → Reads (read_term height least old.now) r new.now
  pub low : (alloc : Global) (old new : MutBor (List Lexeme)) (least : ℕ) (r : Result TallTerm Refusal) → post alloc old height least r new
      → IfOk r (λ t. t.1 ≤ height)
