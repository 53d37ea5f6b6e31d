-- What reading gives.
use Rattle.std.specs.Prelude.{List, Result, Ok, Err}
use Rattle.token_reading.specs.Lexeme.{Lexeme}

-- no tree, or only trees that are too high
pub data Fault : Type 0 where
  no_tree : Fault
  too_high : Fault

-- a value and what stands after it, or why there is none
abbrev pub Outcome : Type 0 → Type 0
Outcome A = Result (A × List Lexeme) Fault

abbrev pub Parser : Type 0 → Type 0
Parser A = List Lexeme → Outcome A

-- the second reader after the first
infixl 10 ◌>>=◌
abbrev pub ◌>>=◌ : {A B : Type 0} → Outcome A → (A → Parser B) → Outcome B
(Ok p) >>= f = f p.0 p.1
(Err e) >>= f = Err e
