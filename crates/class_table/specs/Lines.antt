-- The lines of the classes, as a walk upwards finds them.
use Rattle.std.specs.Prelude.{ℕ, ◌+◌, ◌≡◌, List, [], ◌∷◌, length, Option, Some, None}
use Rattle.class_table.specs.declared.declaration.Declaration.{Declaration}
use Rattle.class_table.specs.declared.lines.Walk.{Walk}
use Rattle.class_table.specs.declared.lines.Walk.TheVariants.{Top, Cycle}
use Rattle.class_table.specs.Ancestors.{up, line_of, parents_of}

-- a walk up to the top is the line; a walk of as many steps as there are classes that doesn't end there is at a class
abbrev pub IsWalk : List (Option ℕ) → ℕ → Walk → Type 0
IsWalk parents c (Top line) = (line ≡ line_of parents c) × (up parents (length parents) c ≡ None)
IsWalk parents c (Cycle here) = up parents (length parents) c ≡ Some here

-- the lines of classes, numbered on from `number`
abbrev pub lines_from : List (Option ℕ) → ℕ → List Declaration → List (List ℕ)
lines_from parents number [] = []
lines_from parents number (d ∷ more) = line_of parents number ∷ lines_from parents (number + 1) more

abbrev pub lines_of : List Declaration → List (List ℕ)
lines_of declared = lines_from (parents_of declared) 0 declared
