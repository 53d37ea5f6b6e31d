-- The members of a class, as rows of the table.
use Rattle.std.specs.Prelude.{ℕ, ◌==◌, Bool, true, false, not, ◌&&◌, List, [], ◌∷◌, map, length, Option, Some, None}
use Rattle.std.specs.List.{list_any}
use Rattle.java_syntax.specs.declared.class.Member.{Member}
use Rattle.java_syntax.specs.declared.class.Member.TheVariants.{Field, Method, Maker, Empty}
use Rattle.java_syntax.specs.declared.class.FieldTree.{FieldTree}
use Rattle.java_syntax.specs.declared.class.MethodTree.{MethodTree}
use Rattle.java_syntax.specs.declared.class.MakerTree.{MakerTree}
use Rattle.token_reading.specs.declared.name.ParamTree.{ParamTree}
use Rattle.java_syntax.specs.declared.class.Mods.{Mods}
use Rattle.java_syntax.specs.declared.class.Modifier.{Modifier}
use Rattle.java_syntax.specs.declared.class.Modifier.TheVariants.{Static, Private}
use Rattle.token_reading.specs.declared.name.Ident.{Ident}
use Rattle.token_reading.specs.declared.name.TypeTree.{TypeTree}
use Rattle.token_reading.specs.declared.name.BaseType.{BaseType}
use Rattle.token_reading.specs.declared.name.BaseType.TheVariants.{Int, Boolean, Class}
use Rattle.class_table.specs.declared.row.FieldRow.{FieldRow}
use Rattle.class_table.specs.declared.row.MethodRow.{MethodRow}
use Rattle.class_table.specs.declared.row.MakerRow.{MakerRow}
use Rattle.class_table.specs.Names.{Name, same_name}

-- ---- rows

abbrev pub types_of : List ParamTree → List TypeTree
types_of params = map (λ p. p.ty) params

abbrev pub param_names : List ParamTree → List Name
param_names params = map (λ p. p.name.name) params

abbrev pub names_of : List Ident → List Name
names_of idents = map (λ i. i.name) idents

-- a field without its place
abbrev pub field_row : ℕ → FieldTree → FieldRow
field_row owner f = record { name = f.name.name; ty = f.ty; owner = owner; mods = f.mods; place = None; at = f.name.at }

abbrev pub method_row : MethodTree → MethodRow
method_row m = record { name = m.name.name; params = types_of m.params; names = param_names m.params; answer = m.answer; throws = names_of m.throws; mods = m.mods; at = m.name.at }

abbrev pub maker_row : MakerTree → MakerRow
maker_row m = record { params = types_of m.params; throws = names_of m.throws; mods = m.mods; at = m.name.at }

-- the fields and constants among the members of class number `owner`
abbrev pub fields_in : ℕ → List Member → List FieldRow
fields_in owner [] = []
fields_in owner (Field f ∷ more) = field_row owner f ∷ fields_in owner more
fields_in owner (Method m ∷ more) = fields_in owner more
fields_in owner (Maker m ∷ more) = fields_in owner more
fields_in owner (Empty ∷ more) = fields_in owner more

abbrev pub methods_in : List Member → List MethodRow
methods_in [] = []
methods_in (Field f ∷ more) = methods_in more
methods_in (Method m ∷ more) = method_row m ∷ methods_in more
methods_in (Maker m ∷ more) = methods_in more
methods_in (Empty ∷ more) = methods_in more

abbrev pub makers_in : List Member → List MakerRow
makers_in [] = []
makers_in (Field f ∷ more) = makers_in more
makers_in (Method m ∷ more) = makers_in more
makers_in (Maker m ∷ more) = maker_row m ∷ makers_in more
makers_in (Empty ∷ more) = makers_in more

-- ---- what is asked of them

abbrev pub is_static_word : Modifier → Bool
is_static_word Static = true
is_static_word _ = false

abbrev pub is_private_word : Modifier → Bool
is_private_word Private = true
is_private_word _ = false

abbrev pub is_static : Mods → Bool
is_static mods = list_any is_static_word mods.words

abbrev pub is_private : Mods → Bool
is_private mods = list_any is_private_word mods.words

-- an instance field has a place in each object; a constant has none
abbrev pub is_instance : FieldRow → Bool
is_instance f = not (is_static f.mods)

abbrev pub same_base : BaseType → BaseType → Bool
same_base Int Int = true
same_base Boolean Boolean = true
same_base (Class c) (Class d) = same_name c.name d.name
same_base _ _ = false

-- two types are the same where they are spelled alike
abbrev pub same_type : TypeTree → TypeTree → Bool
same_type a b = same_base a.base b.base && (a.dimensions == b.dimensions)

abbrev pub same_types : List TypeTree → List TypeTree → Bool
same_types [] [] = true
same_types (a ∷ as_more) (b ∷ bs) = same_type a b && same_types as_more bs
same_types _ _ = false

abbrev pub same_answer : Option TypeTree → Option TypeTree → Bool
same_answer None None = true
same_answer (Some a) (Some b) = same_type a b
same_answer _ _ = false

-- two methods are called alike: one name and one number of parameters
abbrev pub called_alike : MethodRow → MethodRow → Bool
called_alike m n = same_name m.name n.name && (length m.params == length n.params)
