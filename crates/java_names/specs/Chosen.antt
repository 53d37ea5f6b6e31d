-- Which method a selector picks in a class (JLS 15.12.4.4).
use Rattle.std.specs.Prelude.{ℕ, Bool, false, is_none, slice_get, ◌+◌, ◌==◌, List, [], ◌∷◌, map, length, Option, Some, None, option_and_then, if◌then◌else◌}
use Rattle.std.specs.List.{range_with_len}
use Rattle.std.specs.Option.{option_map_or, option_or}
use Rattle.java_names.specs.declared.symbol.MethodSymbol.{MethodSymbol}
use Rattle.java_names.specs.declared.symbol.Symbols.{Symbols}
use Rattle.java_names.specs.Lookups.{class_at, line_of, nearest}

-- the number of a method that has this selector; none where it has another or is `getMessage` of Throwable
abbrev pub picked : ℕ → MethodSymbol → Option ℕ
picked selector m = option_and_then (λ s. if s == selector then m.number else None) m.selector

-- the number of the first of some methods that has this selector
abbrev pub first_picked : ℕ → List MethodSymbol → Option ℕ
first_picked selector [] = None
first_picked selector (m ∷ more) = option_or (picked selector m) (first_picked selector more)

-- the methods that class c declares itself
abbrev pub methods_at : Symbols → ℕ → List MethodSymbol
methods_at s c = option_map_or (λ class. class.methods.symbols) (class_at s c) []

-- the method that a selector picks in class c: that of the nearest class on its line that declares an instance method
-- with this selector
abbrev pub chosen_method : Symbols → ℕ → ℕ → Option ℕ
chosen_method s c selector = nearest (λ d. first_picked selector (methods_at s d)) (line_of s c)

-- what the selectors pick in class c, by their numbers
abbrev pub chosen_of : Symbols → ℕ → List (Option ℕ)
chosen_of s c = map (chosen_method s c) (range_with_len 0 (length s.selectors))

-- what selectors pick, from number n on, where those that pick nothing yet take what `more` says
abbrev pub completed : ℕ → List (Option ℕ) → (ℕ → Option ℕ) → List (Option ℕ)
completed n [] more = []
completed n (pick ∷ picks) more = option_or pick (more n) ∷ completed (n + 1) picks more

-- selector number s picks method m, and no other picks any
abbrev pub only : ℕ → ℕ → ℕ → Option ℕ
only s m k = if s == k then Some m else None

-- a selector picks nothing yet
abbrev pub is_free : List (Option ℕ) → ℕ → Bool
is_free picks s = option_map_or is_none (slice_get picks s) false
