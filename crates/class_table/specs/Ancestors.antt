-- Superclasses by steps, and the line of a class.
use Rattle.std.specs.Prelude.{ℕ, suc, zero, ◌≡◌, ◌<◌, ◌==◌, Bool, drop, List, [], ◌∷◌, map, length, Option, Some, None, option_and_then}
use Rattle.std.specs.List.{slice_get, list_any}
use Rattle.std.specs.Option.{option_map_or}
use Rattle.class_table.specs.declared.declaration.Declaration.{Declaration}

-- the superclass of class number c
abbrev pub parent_in : List (Option ℕ) → ℕ → Option ℕ
parent_in parents c = option_and_then (λ p. p) (slice_get parents c)

-- the class that stands n steps above c
unfoldable pub up : List (Option ℕ) → ℕ → ℕ → Option ℕ
up parents zero c = Some c
up parents (suc n) c = option_and_then (up parents n) (parent_in parents c)

-- d is a superclass of c, of its superclass, or so on
abbrev pub IsAncestor : List (Option ℕ) → ℕ → ℕ → Type 0
IsAncestor parents c d = (n : ℕ) × (up parents (suc n) c ≡ Some d)

-- a class and those above it, in at most n steps
unfoldable pub climb : List (Option ℕ) → ℕ → Option ℕ → List ℕ
climb parents zero c = []
climb parents (suc n) None = []
climb parents (suc n) (Some c) = c ∷ climb parents n (parent_in parents c)

-- the line of a class: the class itself, its superclass, and so on to the top
abbrev pub line_of : List (Option ℕ) → ℕ → List ℕ
line_of parents c = climb parents (length parents) (Some c)

abbrev pub parents_of : List Declaration → List (Option ℕ)
parents_of declared = map (λ d. d.parent) declared

-- the line of class number c of a program, and nothing where there is no such class
abbrev pub line_at : List Declaration → ℕ → List ℕ
line_at declared c = option_map_or (λ d. line_of (parents_of declared) c) (slice_get declared c) []

-- its superclasses: the line without the class itself
abbrev pub superclasses : List Declaration → ℕ → List ℕ
superclasses declared c = drop 1 (line_at declared c)

-- class c is class d, or below it
abbrev pub is_below : List Declaration → ℕ → ℕ → Bool
is_below declared c d = list_any (λ a. a == d) (line_at declared c)

-- each superclass is a class of the list
pub record IsKnown (parents : List (Option ℕ)) : Type 0 where
  pub known : (c d : ℕ) → parent_in parents c ≡ Some d → d < length parents

-- the way up from each class ends
pub record AllEnd (parents : List (Option ℕ)) : Type 0 where
  pub ends : (c : ℕ) → c < length parents → up parents (length parents) c ≡ None
