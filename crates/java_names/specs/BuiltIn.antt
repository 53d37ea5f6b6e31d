-- What it asks that a class is built in.
use Rattle.std.specs.Prelude.{ℕ, Bool, false, not, List, [], ◌∷◌, Option, Some, None, if◌then◌else◌}
use Rattle.core_tree.specs.BuiltIn.{is_built_in}
use Rattle.class_table.specs.declared.row.MakerRow.{MakerRow}

-- class c is one of the file, and declares no constructor
abbrev pub needs_maker : ℕ → List MakerRow → Bool
needs_maker c [] = not (is_built_in c)
needs_maker c (m ∷ more) = false

-- the number that something in class c gets; none in a built-in class
abbrev pub in_file : ℕ → ℕ → Option ℕ
in_file c number = if is_built_in c then None else Some number
