-- The built-in classes, as declarations.
use Rattle.std.specs.Prelude.{List, [], ◌∷◌, map, codes, Some, None, option_map}
use Rattle.core_tree.specs.declared.built_in.BuiltIn.{BuiltIn}
use Rattle.core_tree.specs.declared.built_in.BuiltIn.TheVariants as class
use Rattle.core_tree.specs.BuiltIn.{all_built_in, name_of, number_of, parent_of}
use Rattle.java_syntax.specs.declared.class.Mods.{Mods}
use Rattle.java_syntax.specs.declared.class.Modifier.TheVariants.{Public}
use Rattle.token_reading.specs.declared.name.TypeTree.{TypeTree}
use Rattle.token_reading.specs.declared.name.BaseType.TheVariants.{Class}
use Rattle.class_table.specs.declared.row.FieldRow.{FieldRow}
use Rattle.class_table.specs.declared.row.MethodRow.{MethodRow}
use Rattle.class_table.specs.declared.row.MakerRow.{MakerRow}
use Rattle.class_table.specs.declared.declaration.Declaration.{Declaration}

abbrev pub string_type : TypeTree
string_type = record { base = Class (record { at = 0; name = codes "String" }); dimensions = 0 }

abbrev pub public_mods : Mods
public_mods = record { words = Public ∷ [] }

abbrev pub no_mods : Mods
no_mods = record { words = [] }

abbrev pub maker_of : List TypeTree → MakerRow
maker_of params = record { params = params; throws = []; mods = public_mods; at = 0 }

-- the field of Throwable that holds the message; no source can spell its name
abbrev pub message_field : FieldRow
message_field = record { name = codes "#message"; ty = string_type; owner = 1; mods = no_mods; place = None; at = 0 }

-- `public String getMessage()`
abbrev pub get_message : MethodRow
get_message = record { name = codes "getMessage"; params = []; names = []; answer = Some string_type; throws = []; mods = public_mods; at = 0 }

-- the constructors of a class of exceptions: without parameters, and with the message
abbrev pub exception_makers : List MakerRow
exception_makers = maker_of [] ∷ maker_of (string_type ∷ []) ∷ []

abbrev pub fields_of : BuiltIn → List FieldRow
fields_of class.Throwable = message_field ∷ []
fields_of _ = []

abbrev pub methods_of : BuiltIn → List MethodRow
methods_of class.Throwable = get_message ∷ []
methods_of _ = []

abbrev pub makers_of : BuiltIn → List MakerRow
makers_of class.Object = maker_of [] ∷ []
makers_of _ = exception_makers

-- what a built-in class declares
abbrev pub declaration_of : BuiltIn → Declaration
declaration_of c = record {
  name = name_of c;
  parent = option_map number_of (parent_of c);
  fields = fields_of c;
  methods = methods_of c;
  makers = makers_of c;
  at = 0;
}

-- the built-in classes by their numbers
unfoldable pub built_in : List Declaration
built_in = map declaration_of all_built_in
