-- Literals, clauses and assignments. A literal is an integer other than 0: a variable's number, or its negation.
use Rattle.std.specs.Prelude.{ℕ, zero, suc, ◌^◌, Bool, true, false, not, ◌&&◌, ◌≡◌, ℤ, pos, negsuc, ◌≤◌, unsigned_abs, nat_lt, List, [], ◌∷◌, ◌++◌, slice_index_or, if◌then◌else◌}
use Rattle.std.specs.List.{list_any, list_all, All}
use Rattle.std.specs.Ordering.{int_eq}

-- whether the clause has the literal
abbrev pub has : ℤ → List ℤ → Bool
has l c = list_any (λ m. int_eq m l) c

-- whether the integer is a literal, of a variable below 2^31
abbrev pub is_literal : ℤ → Bool
is_literal l = nat_lt 0 (unsigned_abs l) && nat_lt (unsigned_abs l) (2 ^ 31)

-- whether no literal stands twice
abbrev pub is_distinct : List ℤ → Bool
is_distinct [] = true
is_distinct (l ∷ c) = not (has l c) && is_distinct c

-- whether the list is a clause: literals without repeats
abbrev pub is_clause : List ℤ → Bool
is_clause c = list_all is_literal c && is_distinct c

-- the clause with a literal after the others, unless it has it
abbrev pub inserted : ℤ → List ℤ → List ℤ
inserted l c = if has l c then c else c ++ l ∷ []

-- the clause isn't empty
abbrev pub IsFull : List ℤ → Type 0
IsFull c = (l : ℤ) × (has l c ≡ true)

-- the clause names no variable above n
abbrev pub NamesWithin : ℕ → List ℤ → Type 0
NamesWithin n c = (l : ℤ) → has l c ≡ true → unsigned_abs l ≤ n

-- whether an assignment makes the literal true; 0 isn't a literal
abbrev pub value : (ℕ → Bool) → ℤ → Bool
value a (pos zero) = false
value a (pos (suc n)) = a (suc n)
value a (negsuc n) = not (a (suc n))

-- the assignment satisfies the clauses: each has a literal that is true
abbrev pub Holds : List (List ℤ) → (ℕ → Bool) → Type 0
Holds clauses a = All (λ c. list_any (value a) c ≡ true) clauses

-- an assignment that is given as a list, the value of variable 1 first
abbrev pub listed : List Bool → ℕ → Bool
listed values zero = false
listed values (suc n) = slice_index_or values n false
