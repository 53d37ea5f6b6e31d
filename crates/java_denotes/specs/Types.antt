-- Which values fit which types, by the superclasses of a file's classes (JLS 4.10, 5.2).
use Rattle.std.specs.Prelude.{Bool, ◌||◌, if◌then◌else◌}
use Rattle.core_tree.specs.declared.ty.Ty.{Ty}
use Rattle.core_tree.specs.Types.{is_assignable_by}
use Rattle.java_names.specs.declared.symbol.Symbols.{Symbols}
use Rattle.java_names.specs.Lookups.{is_below}

-- a value of the first type may be assigned to a variable of the second
abbrev pub is_assignable : Symbols → Ty → Ty → Bool
is_assignable s = is_assignable_by (is_below s)

-- one of the types may be assigned to the other
abbrev pub is_either_way : Symbols → Ty → Ty → Bool
is_either_way s a b = is_assignable s a b || is_assignable s b a

-- the wider of two types of which one may be assigned to the other
abbrev pub wider : Symbols → Ty → Ty → Ty
wider s a b = if is_assignable s a b then b else a
