-- The types that are spelled in a file.
use Rattle.std.specs.Prelude.{ℕ, Bool, zero, suc, List, [], ◌∷◌, codes, map, Option, Some, option_map, if◌then◌else◌, is_none}
use Rattle.std.specs.Option.{option_map_or, unwrap_or}
use Rattle.token_reading.specs.declared.name.BaseType.{BaseType}
use Rattle.token_reading.specs.declared.name.BaseType.TheVariants.{Int, Boolean, Class}
use Rattle.token_reading.specs.declared.name.TypeTree.{TypeTree}
use Rattle.core_tree.specs.declared.ty.Ty.{Ty}
use Rattle.core_tree.specs.declared.ty.Ty.TheVariants as ty
use Rattle.class_table.specs.Names.{Name, same_name, number_of}

-- the type of arrays with that many pairs of brackets
abbrev pub arrays : ℕ → Ty → Ty
arrays zero t = t
arrays (suc n) t = ty.Array (arrays n t)

abbrev pub string_name : Name
string_name = codes "String"

abbrev pub is_string : Name → Bool
is_string name = same_name string_name name

-- the type that a name stands for, where the classes have these names (JLS 4.3)
abbrev pub named_type : List Name → Name → Option Ty
named_type names name = if is_string name then Some ty.Text else option_map ty.Class (number_of names name)

-- the type of a base without brackets
abbrev pub base_type : List Name → BaseType → Option Ty
base_type names Int = Some ty.Int
base_type names Boolean = Some ty.Bool
base_type names (Class c) = named_type names c.name

-- the type that is spelled; none where its name is unknown
abbrev pub type_of : List Name → TypeTree → Option Ty
type_of names tree = option_map (arrays tree.dimensions) (base_type names tree.base)

-- the place of a base: that of its name, and 0 where it has none
abbrev pub place_of : BaseType → ℕ
place_of (Class c) = c.at
place_of _ = 0

-- the places at which a base breaks rule 10: that of a name that is no type
abbrev pub unknown_base : List Name → BaseType → List ℕ
unknown_base names (Class c) = if is_none (named_type names c.name) then c.at ∷ [] else []
unknown_base names _ = []

-- the places at which a type breaks rule 10
abbrev pub unknown_type : List Name → TypeTree → List ℕ
unknown_type names tree = unknown_base names tree.base

-- the type of a declaration; `Void` where its name is unknown, which breaks rule 10
abbrev pub declared_type : List Name → TypeTree → Ty
declared_type names tree = unwrap_or (type_of names tree) ty.Void

abbrev pub declared_types : List Name → List TypeTree → List Ty
declared_types names trees = map (declared_type names) trees

-- the type of what a catch clause of this class takes; `Void` where the name is unknown, which breaks rule 10
abbrev pub exception_type : List Name → Name → Ty
exception_type names name = option_map_or ty.Class (number_of names name) ty.Void

-- the type of a result
abbrev pub answer_type : List Name → Option TypeTree → Ty
answer_type names answer = option_map_or (declared_type names) answer ty.Void
