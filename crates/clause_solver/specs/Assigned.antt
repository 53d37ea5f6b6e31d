-- The trail: the literals that hold.
use Rattle.std.specs.Prelude.{ℕ, ◌≡◌, ◌+◌, ◌-◌, ◌<◌, ◌≤◌, ◌^◌, Bool, true, false, not, ◌||◌, ℤ, pos, neg_ℤ, unsigned_abs, List, length, slice_index_or, slice_index}
use Rattle.clause_form.specs.Clauses.{has, is_literal}

-- how many variables there are, and the literals in their order
pub record Assigned : Type 0 where
  pub variables : ℕ
  pub literals : List ℤ

-- the literal with an index
abbrev pub at : List ℤ → ℕ → ℤ
at literals p = slice_index_or literals p (pos 0)

-- each literal has its index noted at its variable, and each index noted is that of such a literal
pub record IsTrail (literals : List ℤ) (places : List ℕ) : Type 0 where
  pub few : length places < 2 ^ 31
  pub literal : (p : ℕ) → p < length literals → is_literal (at literals p) ≡ true
  pub named : (p : ℕ) → p < length literals → unsigned_abs (at literals p) ≤ length places
  pub noted : (p : ℕ) → p < length literals → slice_index places (unsigned_abs (at literals p) - 1) ≡ p + 1
  pub back : (v : ℕ) → v < length places → 0 < slice_index places v
      → (slice_index places v ≤ length literals) × (unsigned_abs (at literals (slice_index places v - 1)) ≡ v + 1)

-- the literal is one of these variables'
abbrev pub Named : Assigned → ℤ → Type 0
Named a l = (is_literal l ≡ true) × (unsigned_abs l ≤ a.variables)

-- neither the literal nor its negation holds
abbrev pub IsOpen : Assigned → ℤ → Bool
IsOpen a l = not (has l a.literals || has (neg_ℤ l) a.literals)

-- at most one literal of each variable holds, and the trail has it once
pub record IsConsistent (a : Assigned) : Type 0 where
  pub named : (l : ℤ) → has l a.literals ≡ true → Named a l
  pub one : (p q : ℕ) → p < length a.literals → q < length a.literals
      → unsigned_abs (at a.literals p) ≡ unsigned_abs (at a.literals q) → p ≡ q
  pub few : length a.literals ≤ a.variables

-- the literal may be decided: it is one of these variables', and open
abbrev pub IsChoice : Assigned → ℤ → Type 0
IsChoice a l = Named a l × (IsOpen a l ≡ true)

-- each variable has a literal that holds
abbrev pub NoneIsOpen : Assigned → Type 0
NoneIsOpen a = (l : ℤ) → Named a l → IsOpen a l ≡ false
