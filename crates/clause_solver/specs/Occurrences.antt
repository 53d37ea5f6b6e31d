-- The occurrences of each literal: the numbers of the clauses that have it.
use Rattle.std.specs.Prelude.{ℕ, zero, suc, ◌≡◌, ◌≢◌, ◌+◌, ◌-◌, ◌*◌, ◌<◌, ◌≤◌, ◌⊎◌, true, ℤ, pos, negsuc, unsigned_abs, List, [], ◌∷◌, ◌++◌, length, slice_index, Vec}
use Rattle.std.specs.declared.alloc.Global.{Global}
use Rattle.clause_form.specs.Clauses.{has, is_literal}
use Rattle.clause_solver.specs.Propagation.{OccurrencesOf, AreNumbers}

-- the index of a literal among all: variable 1, its negation, variable 2, and so on
abbrev pub literal_index : ℤ → ℕ
literal_index (pos n) = 2 * (n - 1)
literal_index (negsuc n) = 2 * n + 1

-- the list with an index
abbrev pub numbers_in : List (Vec ℕ Global) → ℕ → List ℕ
numbers_in [] q = []
numbers_in (list ∷ lists) zero = list.items
numbers_in (list ∷ lists) (suc q) = numbers_in lists q

-- the index of each literal is one of that many
abbrev pub AreWithin : ℕ → List ℤ → Type 0
AreWithin count c = (m : ℤ) → has m c ≡ true → (is_literal m ≡ true) × (2 * unsigned_abs m ≤ count)

-- a list for each literal, all of them empty
pub record IsEmptyOf (variables : ℕ) (lists : List (Vec ℕ Global)) : Type 0 where
  pub size : length lists ≡ 2 * variables
  pub empty : (q : ℕ) → numbers_in lists q ≡ []

-- one list has a number more
pub record Pushed (old new : List (Vec ℕ Global)) (q number : ℕ) : Type 0 where
  pub size : length new ≡ length old
  pub here : numbers_in new q ≡ numbers_in old q ++ number ∷ []
  pub there : (r : ℕ) → r ≢ q → numbers_in new r ≡ numbers_in old r

-- the occurrences of some literals have a number more, and no list has another one more
pub record Noted (old new : List (Vec ℕ Global)) (literals : List ℤ) (number : ℕ) : Type 0 where
  pub size : length new ≡ length old
  pub kept : (q j : ℕ) → j < length (numbers_in old q)
      → (j < length (numbers_in new q)) × (slice_index (numbers_in new q) j ≡ slice_index (numbers_in old q) j)
  pub only : (q j : ℕ) → j < length (numbers_in new q)
      → (slice_index (numbers_in new q) j ≡ number)
      ⊎ ((j < length (numbers_in old q)) × (slice_index (numbers_in new q) j ≡ slice_index (numbers_in old q) j))
  pub noted : (l : ℤ) → has l literals ≡ true
      → (j : ℕ) × (j < length (numbers_in new (literal_index l)))
      × (slice_index (numbers_in new (literal_index l)) j ≡ number)

-- the occurrences of each literal are the numbers of all clauses that have it
pub record AreOccurrences (variables : ℕ) (clauses : List (List ℤ)) (lists : List (Vec ℕ Global)) : Type 0 where
  pub size : length lists ≡ 2 * variables
  pub complete : (l : ℤ) → OccurrencesOf clauses l (numbers_in lists (literal_index l))
  pub numbers : (q : ℕ) → AreNumbers (length clauses) (numbers_in lists q)
