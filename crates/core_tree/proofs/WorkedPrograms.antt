-- Worked programs, computed against the definition of a well-typed program.
use Rattle.std.proofs.Common.{◌≡◌, pos, List, [], ◌∷◌, ◌++◌, Some, None, true, false, codes, refl, arith, length}
use Rattle.core_tree.specs.declared.ty.Ty.TheVariants as ty
use Rattle.core_tree.specs.declared.ty.Ty.TheViews as type
use Rattle.core_tree.specs.declared.operator.BinOp.TheVariants as op
use Rattle.core_tree.specs.declared.expr.Expr.{Expr}
use Rattle.core_tree.specs.declared.expr.Expr.TheVariants as expr
use Rattle.core_tree.specs.declared.expr.Expr.TheViews as view
use Rattle.core_tree.specs.declared.stmt.Stmt.{Stmt}
use Rattle.core_tree.specs.declared.stmt.Stmt.TheVariants as stmt
use Rattle.core_tree.specs.declared.program.Class.{Class}
use Rattle.core_tree.specs.declared.program.Method.{Method}
use Rattle.core_tree.specs.declared.program.Program.{Program}
use Rattle.core_tree.specs.BuiltIn.{built_in_classes}
use denote.Hole.Carrier.{out, shown, hidden}
use Rattle.std.specs.Int.{int_wrap}
use Rattle.core_tree.specs.declared.ty.Ty.{out-Ty}
use Rattle.core_tree.specs.declared.ty.Ty.TheBlock.{shown-the_row-Ty-0}
use Rattle.core_tree.specs.Types.{line_within}
use Rattle.core_tree.specs.Typing.{Scope, type_of}
use Rattle.core_tree.specs.WellTyped.{IsWellTyped}
use Rattle.core_tree.proofs.ExprNodes.{type_of-Binary, type_of-Int, type_of-Bool}
use Rattle.core_tree.proofs.StmtNodes.{is_typed_stmt-Print, declared_numbers-Print}
use Rattle.core_tree.proofs.TypeNodes.{is_same_type-Array, is_same_type-Text, is_value_type-Array, is_value_type-Text, is_value_type-Void}

-- class Main, which declares nothing but main
abbrev main_class : Class
main_class = record { name = codes "Main"; parent = Some 0; fields = []; chosen = None ∷ [] }

-- a main with this body, which declares no local
abbrev main_method : List Stmt → Method
main_method body = record {
  name = codes "main";
  owner = 18;
  on_object = false;
  params = type.Array ty.Text ∷ [];
  answer = ty.Void;
  locals = [];
  body = body;
  contract = None;
}

abbrev only_main : List Stmt → Program
only_main body = record { classes = built_in_classes ++ main_class ∷ []; methods = main_method body ∷ []; makers = []; main = 0 }

-- what main can name
abbrev main_scope : Scope
main_scope = record { this = None; locals = type.Array ty.Text ∷ []; answer = ty.Void }

-- a + b
abbrev sum : Expr → Expr → Expr
sum a b = view.Binary op.Add a b

sum_of_ints : (p : Program) → type_of p main_scope (sum (expr.Int (pos 1)) (expr.Int (pos 2))) ≡ Some ty.Int
unfolding out-Ty out shown-the_row-Ty-0 shown hidden int_wrap
sum_of_ints p = rw (type_of-Binary p main_scope op.Add (expr.Int (pos 1)) (expr.Int (pos 2)), type_of-Int p main_scope (pos 1), type_of-Int p main_scope (pos 2)) refl

sum_of_int_and_boolean : (p : Program) → type_of p main_scope (sum (expr.Int (pos 1)) (expr.Bool true)) ≡ None
unfolding out-Ty out shown-the_row-Ty-0 shown hidden int_wrap
sum_of_int_and_boolean p = rw (type_of-Binary p main_scope op.Add (expr.Int (pos 1)) (expr.Bool true), type_of-Int p main_scope (pos 1), type_of-Bool p main_scope true) refl

-- println(1 + 2);
abbrev print_sum : Program
print_sum = only_main (stmt.Print true (Some (sum (expr.Int (pos 1)) (expr.Int (pos 2)))) ∷ [])

print_sum_is_well_typed : IsWellTyped print_sum
unfolding line_within out-Ty out shown-the_row-Ty-0 shown hidden int_wrap
print_sum_is_well_typed = record {
  few_classes = omega arith;
  built_in = refl;
  classes = rw (is_value_type-Text (length print_sum.classes)) refl;
  inherited = refl;
  methods = rw (
    is_value_type-Array (length print_sum.classes) ty.Text,
    is_value_type-Text (length print_sum.classes),
    is_value_type-Void (length print_sum.classes),
    declared_numbers-Print true (Some (sum (expr.Int (pos 1)) (expr.Int (pos 2)))),
    is_typed_stmt-Print print_sum main_scope true (Some (sum (expr.Int (pos 1)) (expr.Int (pos 2)))),
    sum_of_ints print_sum,
  ) refl;
  makers = refl;
  main = rw (is_same_type-Array ty.Text, is_same_type-Text) refl;
  contracts = refl;
}
