-- What an expression denotes (JLS 6.5, 15). The table says nothing of faults: it is silent only where a name that
-- decides is unknown.
use Rattle.std.specs.Prelude.{ℕ, Bool, false, ◌||◌, ◌&&◌, ◌==◌, not, List, length, Option, Some, None, option_map, option_and_then, is_some, if◌then◌else◌}
use Rattle.std.specs.Option.{option_map_or}
use Rattle.core_tree.specs.declared.ty.Ty.{Ty}
use Rattle.core_tree.specs.declared.ty.Ty.TheVariants as ty
use Rattle.core_tree.specs.declared.ty.Ty.TheViews as type
use Rattle.core_tree.specs.Types.{elements_of, is_boolean, is_string}
use Rattle.token_reading.specs.declared.name.Ident.{Ident}
use Rattle.java_syntax.specs.declared.operator.UnaryOp.{UnaryOp}
use Rattle.java_syntax.specs.declared.operator.UnaryOp.TheVariants as unary
use Rattle.java_syntax.specs.declared.operator.BinaryOp.{BinaryOp}
use Rattle.java_syntax.specs.declared.operator.BinaryOp.TheVariants as binary
use Rattle.java_syntax.specs.declared.expression.Expr.TheOpen.{Expr-F}
use Rattle.class_table.specs.Names.{Name, same_name}
use Rattle.java_names.specs.declared.symbol.MethodSymbol.{MethodSymbol}
use Rattle.java_names.specs.declared.symbol.Symbols.{Symbols}
use Rattle.java_names.specs.declared.scope.Scope.{Scope}
use Rattle.java_names.specs.Lookups.{class_number, field_of}
use Rattle.java_names.specs.Scope.{local_of}
use Rattle.java_names.specs.Types.{arrays, base_type, type_of}
use Rattle.java_denotes.specs.declared.denotation.Denotation.{Denotation}
use Rattle.java_denotes.specs.declared.denotation.Denotation.TheVariants as denotes
use Rattle.java_denotes.specs.Library.{system_name, out_name, println_name, length_name, equals_name, is_print}
use Rattle.java_denotes.specs.Lookups.{answer_denotes, local_denotes, variable_denotes}
use Rattle.java_denotes.specs.Members.{Seen, Naming, Calling, naming_behind, calling, called_method, named_member, value_type}
use Rattle.java_denotes.specs.Types.{is_either_way, wider}

abbrev pub value : Option Ty → Option Denotation
value t = option_map denotes.Value t

-- ---- names, fields and calls

-- a field or a constant
abbrev pub member_denotes : {O : Type 0} → Symbols → Naming O → Option Denotation
member_denotes s k = option_and_then (λ m. variable_denotes m.ty) (named_member s k)

-- the result of a method, where there is one
abbrev pub gives : Option MethodSymbol → Option Denotation
gives method = option_map (λ m. answer_denotes m.answer) method

-- a call's result
abbrev pub call_denotes : {X O : Type 0} → Symbols → Calling X O → Option Denotation
call_denotes s k = gives (called_method s k)

-- a class, or `System`
abbrev pub class_denotes : Symbols → Name → Option Denotation
class_denotes s x = option_map_or (λ c. Some (denotes.Class c)) (class_number s x) (if same_name x system_name then Some denotes.System else None)

-- a field or constant of class c, then a class, or `System`
abbrev pub member_or_class : Symbols → ℕ → Name → Option Denotation
member_or_class s c x = option_map_or (λ m. variable_denotes m.ty) (field_of s c x) (class_denotes s x)

-- a name is a local, then a field or a constant, then a class
abbrev pub name_denotes : Symbols → Scope → Ident → Option Denotation
name_denotes s scope x = option_map_or (local_denotes scope) (local_of scope x.name) (member_or_class s scope.class x.name)

-- `System.out`, and the length of an array
abbrev pub library_field : Name → Option Denotation → Option Denotation
library_field f (Some denotes.System) = if same_name f out_name then Some denotes.Output else None
library_field f (Some (denotes.Value t)) = if is_some (elements_of t) && same_name f length_name then Some (denotes.Value ty.Int) else None
library_field f _ = None

-- the methods of a String
abbrev pub text_method : Name → Option Denotation
text_method m = if same_name m equals_name then Some (denotes.Value ty.Bool) else (if same_name m length_name then Some (denotes.Value ty.Int) else None)

-- a print, or a method of a String
abbrev pub library_method : {X : Type 0} → Name → List X → Option Denotation → Option Denotation
library_method m xs (Some denotes.Output) =
    if is_print m then Some (denotes.Print (record { ends_line = same_name m println_name; has_argument = not (length xs == 0) })) else None
library_method m xs (Some (denotes.Value t)) = if is_string t then text_method m else None
library_method m xs _ = None

-- ---- operators

abbrev pub unary_type : UnaryOp → Ty
unary_type unary.Not = ty.Bool
unary_type _ = ty.Int

-- `&`, `|` and `^` give what they take
abbrev pub bitwise_type : Option Ty → Option Ty
bitwise_type a = option_map (λ t. if is_boolean t then ty.Bool else ty.Int) a

abbrev pub is_text : Option Ty → Bool
is_text t = option_map_or is_string t false

-- `+` gives a String where it takes one
abbrev pub sum_type : Option Ty → Option Ty → Option Ty
sum_type (Some a) (Some b) = Some (if is_string a || is_string b then ty.Text else ty.Int)
sum_type a b = if is_text a || is_text b then Some ty.Text else None

abbrev pub binary_type : BinaryOp → Option Ty → Option Ty → Option Ty
binary_type binary.Or a b = Some ty.Bool
binary_type binary.And a b = Some ty.Bool
binary_type binary.BitOr a b = bitwise_type a
binary_type binary.BitXor a b = bitwise_type a
binary_type binary.BitAnd a b = bitwise_type a
binary_type binary.Equal a b = Some ty.Bool
binary_type binary.NotEqual a b = Some ty.Bool
binary_type binary.Less a b = Some ty.Bool
binary_type binary.Greater a b = Some ty.Bool
binary_type binary.LessEqual a b = Some ty.Bool
binary_type binary.GreaterEqual a b = Some ty.Bool
binary_type binary.Add a b = sum_type a b
binary_type _ a b = Some ty.Int

-- the wider of the two, where one of them can be assigned to the other's type
abbrev pub choice_type : Symbols → Option Ty → Option Ty → Option Ty
choice_type s (Some a) (Some b) = if is_either_way s a b then Some (wider s a b) else None
choice_type s _ _ = None

-- ---- all kinds of nodes

-- a field, a constant, or a part of the library
abbrev pub field_denotes : {X O : Type 0} → Seen X O → Symbols → X → Ident → Option Denotation → Option Denotation
field_denotes as_seen s o f d = option_map_or (member_denotes s) (naming_behind as_seen o f d) (library_field f.name d)

-- what a node denotes, by what its parts denote
abbrev pub denotes_at : {X O : Type 0} → Seen X O → Symbols → Scope → Expr-F X → Option Denotation
denotes_at as_seen s scope (Expr-F.Number at n) = Some (denotes.Value ty.Int)
denotes_at as_seen s scope (Expr-F.Text at t) = Some (denotes.Value ty.Text)
denotes_at as_seen s scope (Expr-F.Bool at b) = Some (denotes.Value ty.Bool)
denotes_at as_seen s scope (Expr-F.Null at) = Some (denotes.Value ty.Null)
denotes_at as_seen s scope (Expr-F.This at) = Some (denotes.Value (ty.Class scope.class))
denotes_at as_seen s scope (Expr-F.Name x) = name_denotes s scope x
denotes_at as_seen s scope (Expr-F.Call m xs) = option_and_then (call_denotes s) (calling as_seen s scope (Expr-F.Call m xs))
denotes_at as_seen s scope (Expr-F.Paren at e) = value (value_type (as_seen.denotes e))
denotes_at as_seen s scope (Expr-F.Super at m xs) = option_and_then (call_denotes s) (calling as_seen s scope (Expr-F.Super at m xs))
denotes_at as_seen s scope (Expr-F.New at c xs) = value (option_map ty.Class (class_number s c.name))
denotes_at as_seen s scope (Expr-F.NewArray at base e dimensions) = value (option_map type.Array (option_map (arrays dimensions) (base_type s.names base)))
denotes_at as_seen s scope (Expr-F.Field o f) = field_denotes as_seen s o f (as_seen.denotes o)
denotes_at as_seen s scope (Expr-F.Method o m xs) =
    option_map_or (call_denotes s) (calling as_seen s scope (Expr-F.Method o m xs)) (library_method m.name xs (as_seen.denotes o))
denotes_at as_seen s scope (Expr-F.Element a i) = value (option_and_then elements_of (value_type (as_seen.denotes a)))
denotes_at as_seen s scope (Expr-F.Unary at op e) = Some (denotes.Value (unary_type op))
denotes_at as_seen s scope (Expr-F.Cast at t e) = value (type_of s.names t)
denotes_at as_seen s scope (Expr-F.Binary op l r) = value (binary_type op (value_type (as_seen.denotes l)) (value_type (as_seen.denotes r)))
denotes_at as_seen s scope (Expr-F.InstanceOf e t) = Some (denotes.Value ty.Bool)
denotes_at as_seen s scope (Expr-F.Conditional c a b) = value (choice_type s (value_type (as_seen.denotes a)) (value_type (as_seen.denotes b)))

-- where a node begins: at its own word or sign, or with its leftmost part
abbrev pub first_token : {X : Type 0} → (X → ℕ) → Expr-F X → ℕ
first_token place (Expr-F.Number at n) = at
first_token place (Expr-F.Text at t) = at
first_token place (Expr-F.Bool at b) = at
first_token place (Expr-F.Null at) = at
first_token place (Expr-F.This at) = at
first_token place (Expr-F.Name x) = x.at
first_token place (Expr-F.Call m xs) = m.at
first_token place (Expr-F.Paren at e) = at
first_token place (Expr-F.Super at m xs) = at
first_token place (Expr-F.New at c xs) = at
first_token place (Expr-F.NewArray at base e dimensions) = at
first_token place (Expr-F.Field o f) = place o
first_token place (Expr-F.Method o m xs) = place o
first_token place (Expr-F.Element a i) = place a
first_token place (Expr-F.Unary at op e) = at
first_token place (Expr-F.Cast at t e) = at
first_token place (Expr-F.Binary op l r) = place l
first_token place (Expr-F.InstanceOf e t) = place e
first_token place (Expr-F.Conditional c a b) = place c
