-- The selectors of a program: what its instance methods are called by.
use Rattle.std.specs.Prelude.{ℕ, Bool, ◌||◌, ◌&&◌, nat_eq, List, [], ◌∷◌, ◌++◌, codes, length, fold, flat_map, if◌then◌else◌, Option, None, position}
use Rattle.std.specs.List.{list_any}
use Rattle.class_table.specs.declared.row.ClassRow.{ClassRow}
use Rattle.class_table.specs.declared.row.MethodRow.{MethodRow}
use Rattle.class_table.specs.Names.{same_name}
use Rattle.class_table.specs.Members.{is_static}
use Rattle.java_names.specs.declared.symbol.Selector.{Selector}

-- one name and one number of parameters
abbrev pub same_selector : Selector → Selector → Bool
same_selector s t = same_name s.name t.name && nat_eq s.arity t.arity

-- what a method is called by
abbrev pub selector_of : MethodRow → Selector
selector_of m = record { name = m.name; arity = length m.params }

-- `getMessage` without parameters
abbrev pub message_selector : Selector
message_selector = record { name = codes "getMessage"; arity = 0 }

-- the selectors with that of a method, which is a further one where it isn't static and no method before it is called
-- so
abbrev pub with_selector : List Selector → MethodRow → List Selector
with_selector selectors m =
    if is_static m.mods || list_any (same_selector (selector_of m)) selectors then selectors else selectors ++ selector_of m ∷ []

-- the selectors by their numbers: `getMessage` without parameters first, then the further ones of the instance methods
-- of the classes, in the order of their first declaration
abbrev pub selectors_of : List ClassRow → List Selector
selectors_of rows = fold with_selector (message_selector ∷ []) (flat_map (λ row. row.methods) rows)

-- the number of a method's selector; none for a static method
abbrev pub selector_number : List Selector → MethodRow → Option ℕ
selector_number selectors m = if is_static m.mods then None else position (same_selector (selector_of m)) selectors
