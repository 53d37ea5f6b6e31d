-- What a name of a member or a class means (JLS 6.3, 8.2, 15.12).
use Rattle.std.specs.Prelude.{ℕ, ◌==◌, Bool, false, not, ◌||◌, nat_eq, List, [], ◌∷◌, position, Option, None, option_and_then, slice_get}
use Rattle.std.specs.List.{list_any}
use Rattle.std.specs.Option.{option_map_or, option_or}
use Rattle.class_table.specs.Names.{Name, same_name, number_of}
use Rattle.java_names.specs.declared.symbol.Selector.{Selector}
use Rattle.java_names.specs.declared.symbol.FieldSymbol.{FieldSymbol}
use Rattle.java_names.specs.declared.symbol.MethodSymbol.{MethodSymbol}
use Rattle.java_names.specs.declared.symbol.MakerSymbol.{MakerSymbol}
use Rattle.java_names.specs.declared.symbol.ClassSymbol.{ClassSymbol}
use Rattle.java_names.specs.declared.symbol.Symbols.{Symbols}
use Rattle.java_names.specs.Selectors.{same_selector}

-- the number of the class of that name
abbrev pub class_number : Symbols → Name → Option ℕ
class_number s name = number_of s.names name

abbrev pub class_at : Symbols → ℕ → Option ClassSymbol
class_at s c = slice_get s.classes c

-- a class, its superclass and so on to Object; none where there is no such class
abbrev pub line_of : Symbols → ℕ → List ℕ
line_of s c = option_map_or (λ class. class.line) (class_at s c) []

-- class c is class d or below it
abbrev pub is_below : Symbols → ℕ → ℕ → Bool
is_below s c d = list_any (λ a. a == d) (line_of s c)

-- the superclass of a class; none of Object alone
abbrev pub parent_of : Symbols → ℕ → Option ℕ
parent_of s c = option_and_then (λ class. class.parent) (class_at s c)

-- what the first class of a line that has such a thing has
abbrev pub nearest : {X : Type 0} → (ℕ → Option X) → List ℕ → Option X
nearest at [] = None
nearest at (c ∷ more) = option_or (at c) (nearest at more)

-- ---- fields

-- the field or constant that a class declares by that name
abbrev pub field_in : ClassSymbol → Name → Option FieldSymbol
field_in class name = option_and_then (λ n. slice_get class.fields.symbols n) (position (same_name name) class.fields.names)

abbrev pub field_at : Symbols → Name → ℕ → Option FieldSymbol
field_at s name c = option_and_then (λ class. field_in class name) (class_at s c)

-- the field or constant of that name in class c, its own or inherited: the nearest one
abbrev pub field_of : Symbols → ℕ → Name → Option FieldSymbol
field_of s c name = nearest (field_at s name) (line_of s c)

-- ---- methods

-- the method that a class declares by that name and number of parameters
abbrev pub method_in : ClassSymbol → Selector → Option MethodSymbol
method_in class key = option_and_then (λ n. slice_get class.methods.symbols n) (position (same_selector key) class.methods.selectors)

abbrev pub method_at : Symbols → Selector → ℕ → Option MethodSymbol
method_at s key c = option_and_then (λ class. method_in class key) (class_at s c)

-- the method of that name and number of parameters in class c, its own or inherited: the nearest one, which may be
-- static or private
abbrev pub method_of : Symbols → ℕ → Selector → Option MethodSymbol
method_of s c key = nearest (method_at s key) (line_of s c)

-- a class declares a method of that name
abbrev pub declares_method : Symbols → Name → ℕ → Bool
declares_method s name c = option_map_or (λ class. list_any (same_name name) class.methods.names) (class_at s c) false

-- class c declares or inherits a method of that name, with any number of parameters
abbrev pub has_method : Symbols → ℕ → Name → Bool
has_method s c name = list_any (declares_method s name) (line_of s c)

-- ---- constructors

abbrev pub maker_in : ClassSymbol → ℕ → Option MakerSymbol
maker_in class arity = option_and_then (λ n. slice_get class.makers.symbols n) (position (nat_eq arity) class.makers.arities)

-- the constructor of class c with that number of parameters
abbrev pub maker_of : Symbols → ℕ → ℕ → Option MakerSymbol
maker_of s c arity = option_and_then (λ class. maker_in class arity) (class_at s c)

-- ---- access

-- a member that class `owner` declares may be named in class c (JLS 6.6.1)
abbrev pub is_accessible : ℕ → ℕ → Bool → Bool
is_accessible c owner is_private = not is_private || nat_eq c owner
