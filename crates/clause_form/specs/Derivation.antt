-- Derivations by resolution, and what a clause adds to what unit propagation finds. Clauses are numbered from 1, and
-- a literal is in a clause where `has` says so.
use Rattle.std.specs.Prelude.{ℕ, zero, suc, ◌+◌, ◌<◌, ◌≡◌, ◌≢◌, Bool, true, not, ◌&&◌, ℤ, neg_ℤ, List, [], ◌∷◌, ◌++◌, length, take, slice_index_or, Option, Some, None, Result, Ok, Err, option_and_then, slice_get, if◌then◌else◌}
use Rattle.std.specs.List.{filter, All}
use Rattle.std.specs.Ordering.{int_eq}
use Rattle.clause_form.specs.Clauses.{has}
use Rattle.clause_form.specs.declared.derivation.Cut.{Cut}
use Rattle.clause_form.specs.declared.derivation.Line.{Line}

-- the clause without a literal
abbrev pub without : ℤ → List ℤ → List ℤ
without p c = filter (λ l. not (int_eq l p)) c

-- the first clause, and what the second adds
abbrev pub union : List ℤ → List ℤ → List ℤ
union c d = c ++ filter (λ l. not (has l c)) d

-- the resolvent of two clauses: the first without the pivot, together with the second without the pivot's negation
unfoldable pub resolvent : List ℤ → ℤ → List ℤ → List ℤ
resolvent c p d = union (without p c) (without (neg_ℤ p) d)

-- the clause of that number
abbrev pub numbered : List (List ℤ) → ℕ → Option (List ℤ)
numbered clauses zero = None
numbered clauses (suc k) = slice_get clauses k

-- the resolvent, where the pivot is in the first clause and its negation in the second
abbrev pub cut_with : List ℤ → ℤ → List ℤ → Option (List ℤ)
cut_with c p d = if has p c && has (neg_ℤ p) d then Some (resolvent c p d) else None

-- the clause so far after one cut, where the cut can be made
abbrev pub after_cut : List (List ℤ) → List ℤ → Cut → Option (List ℤ)
after_cut clauses c cut = option_and_then (λ d. cut_with c cut.pivot d) (numbered clauses cut.with)

-- the clause so far after some cuts
abbrev pub after_cuts : List (List ℤ) → List ℤ → List Cut → Option (List ℤ)
after_cuts clauses c [] = Some c
after_cuts clauses c (cut ∷ cuts) = option_and_then (λ d. after_cuts clauses d cuts) (after_cut clauses c cut)

-- the clause that a line makes of the clauses before it, where it makes one
abbrev pub clause_of : List (List ℤ) → Line → Option (List ℤ)
clause_of clauses line = option_and_then (λ c. after_cuts clauses c line.cuts.items) (numbered clauses line.first)

-- one value where there is nothing, and another made of what there is
abbrev pub option_cases : {A B : Type 0} → Option A → B → (A → B) → B
option_cases None d f = d
option_cases (Some x) d f = f x

-- the clauses of the lines, after those made before, or the number of the first line that makes none
abbrev pub derived_after : List (List ℤ) → List (List ℤ) → List Line → Result (List (List ℤ)) ℕ
derived_after clauses made [] = Ok made
derived_after clauses made (line ∷ log) = option_cases (clause_of (clauses ++ made) line) (Err (length made + 1)) (λ c. derived_after clauses (made ++ c ∷ []) log)

-- the clause of each line, or the number of the first line that makes none
abbrev pub derived : List (List ℤ) → List Line → Result (List (List ℤ)) ℕ
derived clauses log = derived_after clauses [] log

-- the derivation ends with the empty clause, so no assignment satisfies the clauses
abbrev pub Refutes : List (List ℤ) → List Line → Type 0
Refutes clauses log = (made : List (List ℤ)) × (derived clauses log ≡ Ok (made ++ [] ∷ []))

-- unit propagation leaves nothing to do at the clause: a literal of it is in the set wherever the negations of its
-- other literals are
abbrev pub HasUnits : (ℤ → Bool) → List ℤ → Type 0
HasUnits s c = (l : ℤ) → has l c ≡ true → ((m : ℤ) → has m c ≡ true → m ≢ l → s (neg_ℤ m) ≡ true) → s l ≡ true

-- what unit propagation finds from the given literals: the least set that has them and leaves nothing to do, which
-- is what every such set has
abbrev pub Propagated : List (List ℤ) → (ℤ → Type 0) → ℤ → Type 0
Propagated clauses given l =
    (s : ℤ → Bool) → ((m : ℤ) → given m → s m ≡ true) → All (HasUnits s) clauses → s l ≡ true

-- the negations of the clause's literals other than l
abbrev pub NegatedOthers : List ℤ → ℤ → ℤ → Type 0
NegatedOthers c l m = (has (neg_ℤ m) c ≡ true) × (neg_ℤ m ≢ l)

-- unit propagation refutes each literal of the clause
abbrev pub Conflicting : List (List ℤ) → (ℤ → Type 0) → List ℤ → Type 0
Conflicting clauses given c = (m : ℤ) → has m c ≡ true → Propagated clauses given (neg_ℤ m)

-- from the negations of the clause's other literals unit propagation finds neither its literal l nor a conflict
pub record AddsAt (clauses : List (List ℤ)) (c : List ℤ) (l : ℤ) : Type 0 where
  pub among : has l c ≡ true
  pub unfound : ¬ Propagated clauses (NegatedOthers c l) l
  pub quiet : All (λ d. ¬ Conflicting clauses (NegatedOthers c l) d) clauses

-- the clause adds to what unit propagation finds by the clauses: it has no literal with its negation, and adds at one
-- of its literals
pub record Adds (clauses : List (List ℤ)) (c : List ℤ) : Type 0 where
  pub one_sign : (m : ℤ) → has m c ≡ true → has (neg_ℤ m) c ≡ true → ⊥
  pub at : (l : ℤ) × AddsAt clauses c l

-- each clause made adds to the given ones together with those made before it
abbrev pub EachAdds : List (List ℤ) → List (List ℤ) → Type 0
EachAdds clauses made = (k : ℕ) → k < length made → Adds (clauses ++ take k made) (slice_index_or made k [])

-- the derivation has that many lines, and each of their clauses adds to those before it
pub record Spends (clauses : List (List ℤ)) (log : List Line) (count : ℕ) : Type 0 where
  pub made : List (List ℤ)
  pub derived_so : derived clauses log ≡ Ok made
  pub lines : length made ≡ count
  pub each_adds : EachAdds clauses made
