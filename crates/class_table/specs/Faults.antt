-- What a check answers.
use Rattle.std.specs.Prelude.{ℕ, ◌≡◌, List, Some}
use Rattle.std.specs.List.{slice_get}
use Rattle.token_reading.specs.declared.fault.Fault.{Fault}
use Rattle.token_reading.specs.declared.fault.CheckError.{CheckError}
use Rattle.token_reading.specs.declared.fault.CheckError.TheVariants as error

-- P holds of an element of a list: of its number, counted from 0, the element, and what is said of it, a token or a
-- fault
pub record InSome {A B : Type 0} (xs : List A) (P : ℕ → A → B → Type 0) (what : B) : Type 0 where
  pub number : ℕ
  pub element : A
  pub found : slice_get xs number ≡ Some element
  pub holds : P number element what

-- a fault of that rule, at a token of which P holds
pub record OfRule (rule : ℕ) (P : ℕ → Type 0) (f : Fault) : Type 0 where
  pub rule_is : f.rule ≡ rule
  pub holds : P f.at

-- what an error says: P of the fault; nothing where memory ran out
abbrev pub Blames : (Fault → Type 0) → CheckError → Type 0
Blames P (error.Fault f) = P f
Blames P error.OutOfMemory = Unit {0}

-- there is no such fault
pub record Clear (P : Fault → Type 0) : Type 0 where
  pub none : (f : Fault) → ¬ P f
