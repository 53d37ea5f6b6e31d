-- The symbols of a class table: what the classes of a program declare, with numbers and resolved types.
use Rattle.std.specs.Prelude.{ℕ, ◌+◌, ◌==◌, true, false, List, [], ◌∷◌, ◌++◌, map, filter, length, Option, Some, option_map, if◌then◌else◌}
use Rattle.std.specs.List.{filter_map}
use Rattle.class_table.specs.declared.row.ClassTable.{ClassTable}
use Rattle.class_table.specs.declared.row.ClassRow.{ClassRow}
use Rattle.class_table.specs.declared.row.FieldRow.{FieldRow}
use Rattle.class_table.specs.declared.row.MethodRow.{MethodRow}
use Rattle.class_table.specs.declared.row.MakerRow.{MakerRow}
use Rattle.class_table.specs.Names.{Name, number_of}
use Rattle.class_table.specs.Members.{is_static, is_private}
use Rattle.java_names.specs.declared.symbol.Selector.{Selector}
use Rattle.java_names.specs.declared.symbol.FieldSymbol.{FieldSymbol}
use Rattle.java_names.specs.declared.symbol.MethodSymbol.{MethodSymbol}
use Rattle.java_names.specs.declared.symbol.MakerSymbol.{MakerSymbol}
use Rattle.java_names.specs.declared.symbol.Fields.{Fields}
use Rattle.java_names.specs.declared.symbol.Methods.{Methods}
use Rattle.java_names.specs.declared.symbol.Makers.{Makers}
use Rattle.java_names.specs.declared.symbol.ClassSymbol.{ClassSymbol}
use Rattle.java_names.specs.declared.symbol.Symbols.{Symbols}
use Rattle.java_names.specs.declared.numbers.Numbers.{Numbers}
use Rattle.java_names.specs.BuiltIn.{needs_maker, in_file}
use Rattle.java_names.specs.Numbers.{numbers_after, first_numbers}
use Rattle.java_names.specs.Types.{declared_type, declared_types, answer_type}
use Rattle.java_names.specs.Selectors.{selector_of, selectors_of, selector_number}

-- the known classes after `throws`
abbrev pub thrown : List Name → List Name → List ℕ
thrown names throws = filter_map (number_of names) throws

-- the number after this one; none where there are no numbers
abbrev pub following : Option ℕ → Option ℕ
following number = option_map (λ n. n + 1) number

-- ---- fields

-- the fields that class number c declares itself
abbrev pub own_fields : ℕ → List FieldRow → List FieldRow
own_fields c fields = filter (λ f. f.owner == c) fields

abbrev pub field_symbol : List Name → FieldRow → FieldSymbol
field_symbol names f =
    record { owner = f.owner; name = f.name; ty = declared_type names f.ty; place = f.place; is_private = is_private f.mods; at = f.at }

-- fields, with some more after them
abbrev pub with_fields : List Name → Fields → List FieldRow → Fields
with_fields names fields rows =
    record { symbols = fields.symbols ++ map (field_symbol names) rows; names = fields.names ++ map (λ f. f.name) rows }

abbrev pub fields_of : List Name → List FieldRow → Fields
fields_of names rows = record { symbols = map (field_symbol names) rows; names = map (λ f. f.name) rows }

-- ---- methods

abbrev pub method_symbol : List Name → List Selector → ℕ → Option ℕ → MethodRow → MethodSymbol
method_symbol names selectors owner number m =
    record { number = number; owner = owner; name = m.name; params = declared_types names m.params; answer = answer_type names m.answer; throws = thrown names m.throws; is_static = is_static m.mods; is_private = is_private m.mods; selector = selector_number selectors m; at = m.at }

-- methods, numbered on from a number
abbrev pub method_symbols : List Name → List Selector → ℕ → Option ℕ → List MethodRow → List MethodSymbol
method_symbols names selectors owner number [] = []
method_symbols names selectors owner number (m ∷ more) =
    method_symbol names selectors owner number m ∷ method_symbols names selectors owner (following number) more

-- what they are called by
abbrev pub selectors_in : List MethodRow → List Selector
selectors_in rows = map selector_of rows

abbrev pub method_names : List MethodRow → List Name
method_names rows = map (λ m. m.name) rows

abbrev pub methods_of : List Name → List Selector → ℕ → Option ℕ → List MethodRow → Methods
methods_of names selectors owner number rows =
    record { symbols = method_symbols names selectors owner number rows; selectors = selectors_in rows; names = method_names rows }

-- ---- constructors

abbrev pub maker_symbol : List Name → ℕ → Option ℕ → MakerRow → MakerSymbol
maker_symbol names owner number m =
    record { number = number; owner = owner; params = declared_types names m.params; throws = thrown names m.throws; is_private = is_private m.mods; is_made = false; at = m.at }

-- constructors, numbered on from a number
abbrev pub maker_symbols : List Name → ℕ → Option ℕ → List MakerRow → List MakerSymbol
maker_symbols names owner number [] = []
maker_symbols names owner number (m ∷ more) = maker_symbol names owner number m ∷ maker_symbols names owner (following number) more

-- the constructor that is made for a class without one, where `at` is the place of the class's name (JLS 8.8.9)
abbrev pub made_maker : ℕ → ℕ → ℕ → MakerSymbol
made_maker owner number at = record { number = Some number; owner = owner; params = []; throws = []; is_private = false; is_made = true; at = at }

abbrev pub maker_arities : List MakerRow → List ℕ
maker_arities rows = map (λ m. length m.params) rows

-- constructors that are written
abbrev pub written_makers : List Name → ℕ → Option ℕ → List MakerRow → Makers
written_makers names owner number rows = record { symbols = maker_symbols names owner number rows; arities = maker_arities rows }

abbrev pub made_makers : ℕ → ℕ → ℕ → Makers
made_makers owner number at = record { symbols = made_maker owner number at ∷ []; arities = 0 ∷ [] }

-- ---- classes

abbrev pub makers_of : List Name → ℕ → Numbers → ClassRow → Makers
makers_of names c numbers row =
    if needs_maker c row.makers then made_makers c numbers.made row.at else written_makers names c (in_file c numbers.maker) row.makers

abbrev pub class_symbol : List Name → List Selector → ℕ → Numbers → ClassRow → ClassSymbol
class_symbol names selectors c numbers row =
    record { parent = row.parent; line = row.line; fields = fields_of names (own_fields c row.fields); methods = methods_of names selectors c (in_file c numbers.method) row.methods; makers = makers_of names c numbers row; at = row.at }

-- the classes from number c on
abbrev pub class_symbols : List Name → List Selector → ℕ → Numbers → List ClassRow → List ClassSymbol
class_symbols names selectors c numbers [] = []
class_symbols names selectors c numbers (row ∷ more) =
    class_symbol names selectors c numbers row ∷ class_symbols names selectors (c + 1) (numbers_after c numbers row) more

abbrev pub names_of : List ClassRow → List Name
names_of rows = map (λ row. row.name) rows

-- the symbols of a table
abbrev pub symbols_of : ClassTable → Symbols
symbols_of table =
    record { names = names_of table.classes; classes = class_symbols (names_of table.classes) (selectors_of table.classes) 0 (first_numbers table.classes) table.classes; selectors = selectors_of table.classes }
