-- Worked rows: nodes that break a rule, and nodes that don't.
use Rattle.std.proofs.Common.{◌≡◌, ℕ, pos, List, [], ◌∷◌, Some, None, true, false, codes, refl}
use denote.Hole.Carrier.{out, shown, hidden}
use Rattle.core_tree.specs.declared.ty.Ty.{Ty, out-Ty}
use Rattle.core_tree.specs.declared.ty.Ty.TheVariants as ty
use Rattle.core_tree.specs.declared.ty.Ty.TheViews as type
use Rattle.core_tree.specs.declared.ty.Ty.TheBlock.{shown-the_row-Ty-0}
use Rattle.core_tree.specs.declared.expr.Expr.TheVariants as core
use Rattle.token_reading.specs.declared.name.Ident.{Ident}
use Rattle.token_reading.specs.declared.name.TypeTree.{TypeTree}
use Rattle.token_reading.specs.declared.name.BaseType.TheVariants.{Class}
use Rattle.java_syntax.specs.declared.operator.BinaryOp.TheVariants as binary
use Rattle.java_syntax.specs.declared.expression.Expr.TheOpen.{Expr-F}
use Rattle.java_names.specs.Lookups.{is_below}
use Rattle.java_names.specs.declared.symbol.ClassSymbol.{ClassSymbol}
use Rattle.java_names.specs.declared.symbol.FieldSymbol.{FieldSymbol}
use Rattle.java_names.specs.declared.scope.Scope.{Scope}
use Rattle.java_names.specs.Scope.{first_scope, declared}
use Rattle.java_exprs.specs.declared.environment.Environment.{Environment}
use Rattle.java_exprs.specs.declared.folded.Folded.TheVariants as folded
use Rattle.java_denotes.specs.declared.denotation.Denotation.{Denotation}
use Rattle.java_denotes.specs.declared.denotation.Denotation.TheVariants as denotes
use Rattle.java_exprs.specs.declared.typed.Form.{Form}
use Rattle.java_exprs.specs.declared.typed.Form.TheVariants as form
use Rattle.java_exprs.specs.Attr.{Attr, value_faults, negated_faults, prefix_faults}
use Rattle.java_exprs.specs.Operators.{gives_int, gives_bool, of_parts, binary_folded}
use Rattle.core_tree.proofs.TypeNodes.{assignable-Class, assignable-Int, assignable-Array, assignable-Null}
use Rattle.java_exprs.specs.Rules.{rule_10, rule_11, rule_12, rule_13, rule_14, rule_15, rule_16, rule_19, rule_21}

-- ---- what the rows speak of

abbrev part : Denotation → Form → ℕ → Attr
part d f at = record { at = at; denotes = Some d; form = f; needs_minus = false; core = core.Null; faults = [] }

abbrev of_type : Ty → ℕ → Attr
of_type t = part (denotes.Value t) form.Other

abbrev int : ℕ → Attr
int = of_type ty.Int

abbrev boolean : ℕ → Attr
boolean = of_type ty.Bool

abbrev string : ℕ → Attr
string = of_type ty.Text

abbrev null : ℕ → Attr
null = of_type ty.Null

-- an array of ints
abbrev array : ℕ → Attr
array = of_type (type.Array ty.Int)

-- an instance of class 1
abbrev instance : ℕ → Attr
instance = of_type (ty.Class 1)

abbrev library : ℕ → Attr
library = part denotes.Output form.Other

abbrev ident : List ℕ → ℕ → Ident
ident name at = record { at = at; name = name }

abbrev class_type : List ℕ → ℕ → TypeTree
class_type name at = record { base = Class (ident name at); dimensions = 0 }

abbrev field : List ℕ → ℕ → FieldSymbol
field name at = record { owner = 0; name = name; ty = ty.Int; place = Some 0; is_private = true; at = at }

-- class A has a private field `f`, and class B is below it
abbrev class_a : ClassSymbol
class_a = record {
  parent = None;
  line = 0 ∷ [];
  fields = record { symbols = field (codes "f") 3 ∷ []; names = codes "f" ∷ [] };
  methods = record { symbols = []; selectors = []; names = [] };
  makers = record { symbols = []; arities = [] };
  at = 1;
}

abbrev class_b : ClassSymbol
class_b = record {
  parent = Some 0;
  line = 1 ∷ 0 ∷ [];
  fields = record { symbols = []; names = [] };
  methods = record { symbols = []; selectors = []; names = [] };
  makers = record { symbols = []; arities = [] };
  at = 6;
}

abbrev env : Environment
env = record {
  symbols = record { names = codes "A" ∷ codes "B" ∷ []; classes = class_a ∷ class_b ∷ []; selectors = [] };
  constants = [];
  places = [];
}

abbrev inside : ℕ → Scope
inside c = first_scope c false ty.Void

abbrev in_static : ℕ → Scope
in_static c = first_scope c true ty.Void

-- ---- 10

unknown_name : rule_10 env (inside 1) (Expr-F.Name (ident (codes "x") 7)) ≡ 7 ∷ []
unknown_name = refl

local_name : rule_10 env (declared (inside 1) (codes "x") ty.Int) (Expr-F.Name (ident (codes "x") 7)) ≡ []
unfolding declared
local_name = refl

class_as_value : value_faults (part (denotes.Class 1) form.Other 7) ≡ record { rule = 10; at = 7 } ∷ []
class_as_value = refl

class_before_dot : prefix_faults (part (denotes.Class 1) form.Other 7) ≡ []
class_before_dot = refl

unknown_field : rule_10 env (inside 1) (Expr-F.Field (instance 7) (ident (codes "g") 9)) ≡ 9 ∷ []
unfolding out-Ty out shown-the_row-Ty-0 shown hidden
unknown_field = refl

inherited_field : rule_10 env (inside 1) (Expr-F.Field (instance 7) (ident (codes "f") 9)) ≡ []
unfolding out-Ty out shown-the_row-Ty-0 shown hidden
inherited_field = refl

unknown_class : rule_10 env (inside 1) (Expr-F.New 7 (ident (codes "C") 8) []) ≡ 8 ∷ []
unknown_class = refl

-- ---- 11

int_and_boolean : rule_11 env (inside 1) (Expr-F.Binary binary.Multiply (int 7) (boolean 9)) ≡ 9 ∷ []
unfolding out-Ty out shown-the_row-Ty-0 shown hidden
int_and_boolean = refl

two_ints : rule_11 env (inside 1) (Expr-F.Binary binary.Multiply (int 7) (int 9)) ≡ []
unfolding out-Ty out shown-the_row-Ty-0 shown hidden
two_ints = refl

two_booleans : rule_11 env (inside 1) (Expr-F.Binary binary.BitAnd (boolean 7) (boolean 9)) ≡ []
unfolding out-Ty out shown-the_row-Ty-0 shown hidden
two_booleans = refl

null_printed : rule_11 env (inside 1) (Expr-F.Method (library 1) (ident (codes "print") 5) (null 7 ∷ [])) ≡ 7 ∷ []
unfolding out-Ty out shown-the_row-Ty-0 shown hidden
null_printed = refl

string_printed : rule_11 env (inside 1) (Expr-F.Method (library 1) (ident (codes "print") 5) (string 7 ∷ [])) ≡ []
unfolding out-Ty out shown-the_row-Ty-0 shown hidden
string_printed = refl

int_or_null : rule_11 env (inside 1) (Expr-F.Conditional (boolean 5) (int 7) (null 9)) ≡ 9 ∷ []
unfolding out-Ty out shown-the_row-Ty-0 shown hidden
int_or_null = rw (assignable-Int (is_below env.symbols), assignable-Null (is_below env.symbols)) refl

array_or_null : rule_11 env (inside 1) (Expr-F.Conditional (boolean 5) (array 7) (null 9)) ≡ []
unfolding out-Ty out shown-the_row-Ty-0 shown hidden
array_or_null = rw (assignable-Array (is_below env.symbols) ty.Int, assignable-Null (is_below env.symbols)) refl

nothing_as_value : value_faults (part denotes.Nothing form.Call 7) ≡ record { rule = 11; at = 7 } ∷ []
nothing_as_value = refl

-- ---- 12

print_of_nothing : rule_12 env (inside 1) (Expr-F.Method (library 1) (ident (codes "print") 5) []) ≡ 5 ∷ []
print_of_nothing = refl

println_of_nothing : rule_12 env (inside 1) (Expr-F.Method (library 1) (ident (codes "println") 5) []) ≡ []
println_of_nothing = refl

-- ---- 13

private_outside : rule_13 env (inside 1) (Expr-F.Name (ident (codes "f") 7)) ≡ 7 ∷ []
private_outside = refl

private_inside : rule_13 env (inside 0) (Expr-F.Name (ident (codes "f") 7)) ≡ []
private_inside = refl

-- in its own class a private member may be named through an object of a class below
private_through_subclass : rule_13 env (inside 0) (Expr-F.Field (instance 7) (ident (codes "f") 9)) ≡ []
unfolding out-Ty out shown-the_row-Ty-0 shown hidden
private_through_subclass = refl

-- ---- 14

this_in_static : rule_14 env (in_static 0) (Expr-F.This 7) ≡ 7 ∷ []
this_in_static = refl

this_on_object : rule_14 env (inside 0) (Expr-F.This 7) ≡ []
this_on_object = refl

field_in_static : rule_14 env (in_static 0) (Expr-F.Name (ident (codes "f") 7)) ≡ 7 ∷ []
field_in_static = refl

field_of_object_in_static : rule_14 env (in_static 0) (Expr-F.Field (instance 7) (ident (codes "f") 9)) ≡ []
unfolding out-Ty out shown-the_row-Ty-0 shown hidden
field_of_object_in_static = refl

-- ---- 15

cast_to_string : rule_15 env (Expr-F.Cast 4 (class_type (codes "String") 5) (int 7)) ≡ 4 ∷ []
unfolding out-Ty out shown-the_row-Ty-0 shown hidden
cast_to_string = refl

cast_of_int : rule_15 env (Expr-F.Cast 4 (class_type (codes "A") 5) (int 7)) ≡ 4 ∷ []
unfolding out-Ty out shown-the_row-Ty-0 shown hidden
cast_of_int = rw (assignable-Int (is_below env.symbols), assignable-Class (is_below env.symbols) 0) refl

cast_upwards : rule_15 env (Expr-F.Cast 4 (class_type (codes "A") 5) (instance 7)) ≡ []
unfolding out-Ty out shown-the_row-Ty-0 shown hidden
cast_upwards = rw (assignable-Class (is_below env.symbols) 1) refl

cast_downwards : rule_15 env (Expr-F.Cast 4 (class_type (codes "B") 5) (of_type (ty.Class 0) 7)) ≡ []
unfolding out-Ty out shown-the_row-Ty-0 shown hidden
cast_downwards = rw (assignable-Class (is_below env.symbols) 0, assignable-Class (is_below env.symbols) 1) refl

-- ---- 16

two_strings : rule_16 (Expr-F.Binary binary.Equal (string 7) (string 9)) ≡ 7 ∷ []
unfolding out-Ty out shown-the_row-Ty-0 shown hidden
two_strings = refl

string_and_null : rule_16 (Expr-F.Binary binary.Equal (string 7) (null 9)) ≡ []
unfolding out-Ty out shown-the_row-Ty-0 shown hidden
string_and_null = refl

-- ---- 19

too_great : rule_19 (Expr-F.Number 7 2_147_483_649) ≡ 7 ∷ []
too_great = refl

greatest : rule_19 (Expr-F.Number 7 2_147_483_648) ≡ []
greatest = refl

without_minus : value_faults (record (int 7) { needs_minus = true }) ≡ record { rule = 19; at = 7 } ∷ []
without_minus = refl

behind_minus : negated_faults (record (int 7) { needs_minus = true }) ≡ []
behind_minus = refl

-- ---- 20: the initialisers of constants

-- `1 / 0`
division_by_zero : binary_folded binary.Divide (gives_int (pos 1)) (gives_int (pos 0)) ≡ folded.Fails
division_by_zero = refl

-- `true || 1 / 0 == 1`
not_evaluated : binary_folded binary.Or (gives_bool true) folded.Fails ≡ gives_bool true
not_evaluated = refl

-- `true || f()`
not_made : of_parts (gives_bool true ∷ folded.Other ∷ []) (binary_folded binary.Or (gives_bool true) folded.Other) ≡ folded.Other
not_made = refl

-- ---- 21

string_and_array : rule_21 (Expr-F.Binary binary.Add (string 7) (array 9)) ≡ 7 ∷ []
unfolding out-Ty out shown-the_row-Ty-0 shown hidden
string_and_array = refl

string_and_int : rule_21 (Expr-F.Binary binary.Add (string 7) (int 9)) ≡ []
unfolding out-Ty out shown-the_row-Ty-0 shown hidden
string_and_int = refl
