-- Which classes of exceptions are checked, and which are handled (JLS 11.1.1, 11.2.3).
use Rattle.std.specs.Prelude.{ℕ, ◌==◌, Bool, List}
use Rattle.std.specs.List.{list_any, list_all}
use Rattle.core_tree.specs.Types.{is_checked_by}
use Rattle.java_names.specs.declared.symbol.Symbols.{Symbols}
use Rattle.java_names.specs.Lookups.{line_of, is_below}

-- the class is checked
abbrev pub is_checked : Symbols → ℕ → Bool
is_checked s = is_checked_by (is_below s)

-- class c or one of its superclasses is among these
abbrev pub is_covered : Symbols → List ℕ → ℕ → Bool
is_covered s classes c = list_any (λ a. list_any (λ d. d == a) classes) (line_of s c)

-- an exception of class c is covered by each of these: by what each method or constructor declares that runs the code
abbrev pub is_declared : Symbols → List (List ℕ) → ℕ → Bool
is_declared s lists c = list_all (λ classes. is_covered s classes c) lists
