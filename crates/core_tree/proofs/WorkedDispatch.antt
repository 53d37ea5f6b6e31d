-- Two classes, the second below the first and with a method of its own in place of the inherited one: the program is
-- well typed, and each of a few changes makes it ill typed.
use Rattle.std.proofs.Common.{◌≡◌, ℕ, pos, Bool, IsTrue, List, [], ◌∷◌, ◌++◌, Option, Some, None, true, false, codes, refl, arith, length, map, ap, slice_get}
use denote.Hole.Carrier.{out, shown, hidden}
use Rattle.std.specs.Int.{int_wrap}
use Rattle.core_tree.specs.declared.ty.Ty.{Ty, out-Ty}
use Rattle.core_tree.specs.declared.ty.Ty.TheBlock.{shown-the_row-Ty-0}
use Rattle.core_tree.specs.declared.ty.Ty.TheVariants as ty
use Rattle.core_tree.specs.declared.ty.Ty.TheViews as type
use Rattle.core_tree.specs.declared.expr.Expr.{Expr}
use Rattle.core_tree.specs.declared.expr.Expr.TheVariants as expr
use Rattle.core_tree.specs.declared.expr.Expr.TheViews as view
use Rattle.core_tree.specs.declared.expr.Site.{Site}
use Rattle.core_tree.specs.declared.stmt.Stmt.{Stmt}
use Rattle.core_tree.specs.declared.stmt.Stmt.TheVariants as stmt
use Rattle.core_tree.specs.declared.program.Class.{Class}
use Rattle.core_tree.specs.declared.program.Field.{Field}
use Rattle.core_tree.specs.declared.program.Method.{Method}
use Rattle.core_tree.specs.declared.program.Maker.{Maker}
use Rattle.core_tree.specs.declared.program.Parent.{Parent}
use Rattle.core_tree.specs.declared.program.Parent.TheVariants as parent
use Rattle.core_tree.specs.declared.program.Program.{Program}
use Rattle.core_tree.specs.BuiltIn.{built_in_classes}
use Rattle.core_tree.specs.Types.{line_within, line_of}
use Rattle.core_tree.specs.Typing.{Scope, type_of, is_typed_stmt}
use Rattle.core_tree.specs.WellTyped.{IsWellTyped, is_numbered}
use Rattle.core_tree.proofs.ExprNodes.{type_of-Int, type_of-This, type_of-Local, type_of-Field, type_of-Chosen, type_of-New}
use Rattle.core_tree.proofs.StmtNodes.{is_typed_stmt-Break, is_typed_stmt-Declare, is_typed_stmt-Print, is_typed_stmt-Return, declared_numbers-Declare, declared_numbers-Print, declared_numbers-Return}
use Rattle.core_tree.proofs.TypeNodes.{is_assignable-Class, is_assignable-Int, is_same_type-Int, is_same_type-Array, is_same_type-Class, is_same_type-Text, is_value_type-Int, is_value_type-Class, is_value_type-Array, is_value_type-Text, is_value_type-Void}

-- int x;
abbrev x : Field
x = record { name = codes "x"; ty = ty.Int; start = None; owner = 18 }

-- class A { int x; int f() { return 1; } }
abbrev class_a : Class
class_a = record { name = codes "A"; parent = Some 0; fields = x ∷ []; chosen = None ∷ Some 0 ∷ [] }

-- class B extends A, with these fields
abbrev class_b : List Field → Class
class_b fields = record { name = codes "B"; parent = Some 18; fields = fields; chosen = None ∷ Some 1 ∷ [] }

abbrev class_main : Class
class_main = record { name = codes "Main"; parent = Some 0; fields = []; chosen = None ∷ None ∷ [] }

-- f() of a class, with this result
abbrev f_of : ℕ → Ty → Expr → Method
f_of owner answer e = record {
  name = codes "f";
  owner = owner;
  on_object = true;
  params = [];
  answer = answer;
  locals = [];
  body = stmt.Return (Some e) ∷ [];
  contract = None;
}

-- the constructor of a class that none is written in
abbrev maker_of : ℕ → Parent → Maker
maker_of owner above = record { owner = owner; params = []; parent = above; locals = []; body = [] }

abbrev makers : List Maker
makers = maker_of 18 parent.Plain ∷ maker_of 19 (parent.Maker 0 []) ∷ maker_of 20 parent.Plain ∷ []

abbrev site : Site
site = record { line = 5; column = 24 }

-- A a = new B(); println(a.f());
abbrev body : List Stmt
body = stmt.Declare 1 (ty.Class 18) (Some (expr.New 1 [])) ∷ stmt.Print true (Some (view.Chosen (expr.Local 1) 1 [] site)) ∷ []

abbrev main_method : Method
main_method = record {
  name = codes "main";
  owner = 20;
  on_object = false;
  params = type.Array ty.Text ∷ [];
  answer = ty.Void;
  locals = ty.Class 18 ∷ [];
  body = body;
  contract = None;
}

-- the program in which B has these fields, and an f with this result
abbrev family : List Field → Ty → Expr → Program
family fields answer e = record {
  classes = built_in_classes ++ class_a ∷ class_b fields ∷ class_main ∷ [];
  methods = f_of 18 ty.Int (expr.Int (pos 1)) ∷ f_of 19 answer e ∷ main_method ∷ [];
  makers = makers;
  main = 2;
}

-- B's f is: return x;
abbrev pub good : Program
good = family (x ∷ []) ty.Int (view.Field expr.This 0)

abbrev scope_of : ℕ → Scope
scope_of c = record { this = Some c; locals = []; answer = ty.Int }

abbrev main_scope : Scope
main_scope = record { this = None; locals = type.Array ty.Text ∷ ty.Class 18 ∷ []; answer = ty.Void }

-- `x` in B is an int
field_of_this : type_of good (scope_of 19) (view.Field expr.This 0) ≡ Some ty.Int
unfolding out-Ty out shown-the_row-Ty-0 shown hidden
field_of_this = rw (type_of-Field good (scope_of 19) expr.This 0, type_of-This good (scope_of 19)) refl

-- `new B()` is a B
new_b : type_of good main_scope (expr.New 1 []) ≡ Some (ty.Class 19)
new_b = rw (type_of-New good main_scope 1 []) refl

-- `a.f()` is an int, as A's f says
call_of_f : type_of good main_scope (view.Chosen (expr.Local 1) 1 [] site) ≡ Some ty.Int
unfolding out-Ty out shown-the_row-Ty-0 shown hidden line_within
call_of_f = rw (type_of-Chosen good main_scope (expr.Local 1) 1 [] site, type_of-Local good main_scope 1) refl

-- the program is well typed
pub good_is_well_typed : IsWellTyped good
unfolding line_within out-Ty out shown-the_row-Ty-0 shown hidden int_wrap
good_is_well_typed = record {
  few_classes = omega arith;
  built_in = refl;
  classes = rw (is_value_type-Text 21, is_value_type-Int 21, is_same_type-Int) refl;
  inherited = refl;
  methods = rw (
    is_value_type-Array 21 ty.Text,
    is_value_type-Text 21,
    is_value_type-Int 21,
    is_value_type-Class 21 18,
    is_value_type-Void 21,
    declared_numbers-Return (Some (expr.Int (pos 1))),
    declared_numbers-Return (Some (view.Field expr.This 0)),
    declared_numbers-Declare 1 (ty.Class 18) (Some (expr.New 1 [])),
    declared_numbers-Print true (Some (view.Chosen (expr.Local 1) 1 [] site)),
    is_typed_stmt-Return good (scope_of 18) (Some (expr.Int (pos 1))),
    type_of-Int good (scope_of 18) (pos 1),
    is_typed_stmt-Return good (scope_of 19) (Some (view.Field expr.This 0)),
    field_of_this,
    is_typed_stmt-Declare good main_scope 1 (ty.Class 18) (Some (expr.New 1 [])),
    new_b,
    is_typed_stmt-Print good main_scope true (Some (view.Chosen (expr.Local 1) 1 [] site)),
    call_of_f,
    is_assignable-Int good.classes,
    is_assignable-Class good.classes 19,
    is_same_type-Class 18,
  ) refl;
  makers = refl;
  main = rw (is_same_type-Array ty.Text, is_same_type-Text) refl;
  contracts = refl;
}

-- true isn't false
different : (b : Bool) → b ≡ false → IsTrue b → ⊥
different b is_false is_true = cc

-- B's f answers a boolean: another result than the method in whose place it stands
bad_override : IsWellTyped (family (x ∷ []) ty.Bool (expr.Bool true)) → ⊥
unfolding line_within out-Ty out shown-the_row-Ty-0 shown hidden
bad_override w = different _ (rw (is_value_type-Text 21, is_value_type-Int 21, is_same_type-Int) refl) w.classes

-- no field isn't one field
other_length : ◌≡◌ {A = Option ℕ} (Some 0) (Some 1) → ⊥
other_length is = cc

-- B lacks the field of A
bad_fields : IsWellTyped (family [] ty.Int (expr.Int (pos 2))) → ⊥
bad_fields w = other_length (ap (λ rows. slice_get (map length rows) 19) w.inherited)

-- `break` outside a loop
bad_break : (p : Program) (s : Scope) → is_typed_stmt p s stmt.Break false ≡ false
bad_break p s = rw (is_typed_stmt-Break p s) refl

-- an int where an A is declared
bad_declaration : is_typed_stmt good main_scope (stmt.Declare 1 (ty.Class 18) (Some (expr.Int (pos 2)))) false ≡ false
unfolding out-Ty out shown-the_row-Ty-0 shown hidden int_wrap
bad_declaration = rw (is_typed_stmt-Declare good main_scope 1 (ty.Class 18) (Some (expr.Int (pos 2))), type_of-Int good main_scope (pos 2), is_assignable-Int good.classes, is_same_type-Class 18) refl

-- a local that is declared twice
bad_numbers : is_numbered [] (ty.Int ∷ []) (stmt.Declare 0 ty.Int None ∷ stmt.Declare 0 ty.Int None ∷ []) ≡ false
bad_numbers = rw (declared_numbers-Declare 0 ty.Int None) refl

-- a class that is its own ancestor has no line
bad_line : line_of (record { name = codes "A"; parent = Some 1; fields = []; chosen = [] } ∷ record { name = codes "B"; parent = Some 0; fields = []; chosen = [] } ∷ []) 0 ≡ None
unfolding line_within
bad_line = refl
