-- Worked rows: statements that break a rule, and others that don't.
use Rattle.std.proofs.Common.{◌≡◌, ℕ, List, [], ◌∷◌, Some, None, true, false, codes, refl}
use denote.Hole.Carrier.{out, shown, hidden}
use Rattle.core_tree.specs.declared.ty.Ty.{Ty, out-Ty}
use Rattle.core_tree.specs.declared.ty.Ty.TheVariants as ty
use Rattle.core_tree.specs.declared.ty.Ty.TheBlock.{shown-the_row-Ty-0}
use Rattle.core_tree.specs.declared.expr.Expr.TheVariants as core
use Rattle.core_tree.specs.declared.stmt.Stmt.TheVariants as step
use Rattle.token_reading.specs.declared.name.Ident.{Ident}
use Rattle.token_reading.specs.declared.name.TypeTree.{TypeTree}
use Rattle.token_reading.specs.declared.name.BaseType.TheVariants.{Int, Class}
use Rattle.java_syntax.specs.declared.expression.Expr.TheVariants as tree
use Rattle.java_syntax.specs.declared.statement.LocalTree.{LocalTree}
use Rattle.java_syntax.specs.declared.statement.Stmt.TheOpen.{Stmt-F}
use Rattle.java_names.specs.declared.symbol.ClassSymbol.{ClassSymbol}
use Rattle.java_names.specs.declared.symbol.MakerSymbol.{MakerSymbol}
use Rattle.java_names.specs.declared.scope.Scope.{Scope}
use Rattle.java_names.specs.Scope.{first_scope, declared, left, back_at}
use Rattle.java_exprs.specs.declared.environment.Environment.{Environment}
use Rattle.java_denotes.specs.declared.denotation.Denotation.{Denotation}
use Rattle.java_denotes.specs.declared.denotation.Denotation.TheVariants as denotes
use Rattle.java_exprs.specs.declared.typed.Form.{Form}
use Rattle.java_exprs.specs.declared.typed.Form.TheVariants as form
use Rattle.java_exprs.specs.Attr.{Attr}
use Rattle.java_exprs.proofs.AttrLemmas.{attr_number, attr_bool}
use Rattle.java_exprs.specs.Rules.{sum_21}
use Rattle.java_statements.specs.Statements.{stmt_10, stmt_11, stmt_14, stmt_17, stmt_18, target_18, constant_20}

-- ---- what the rows speak of

abbrev pub part : Denotation → Form → ℕ → Attr
part d f at = record { at = at; denotes = Some d; form = f; needs_minus = false; core = core.Null; faults = [] }

abbrev variable : Ty → ℕ → Attr
variable t = part (denotes.Value t) form.Variable

abbrev pub ident : List ℕ → ℕ → Ident
ident name at = record { at = at; name = name }

abbrev pub int_type : TypeTree
int_type = record { base = Int; dimensions = 0 }

abbrev pub class_type : List ℕ → ℕ → TypeTree
class_type name at = record { base = Class (ident name at); dimensions = 0 }

abbrev local : TypeTree → Ident → LocalTree
local t x = record { ty = t; name = x; value = None }

abbrev maker : List Ty → MakerSymbol
maker params = record { number = Some 0; owner = 0; params = params; throws = []; is_private = true; is_made = false; at = 2 }

-- class A has a private constructor with one int, and class B is below it
abbrev class_a : ClassSymbol
class_a = record {
  parent = None;
  line = 0 ∷ [];
  fields = record { symbols = []; names = [] };
  methods = record { symbols = []; selectors = []; names = [] };
  makers = record { symbols = maker (ty.Int ∷ []) ∷ []; arities = 1 ∷ [] };
  at = 1;
}

abbrev class_b : ClassSymbol
class_b = record {
  parent = Some 0;
  line = 1 ∷ 0 ∷ [];
  fields = record { symbols = []; names = [] };
  methods = record { symbols = []; selectors = []; names = [] };
  makers = record { symbols = []; arities = [] };
  at = 6;
}

abbrev pub env : Environment
env = record {
  symbols = record { names = codes "A" ∷ codes "B" ∷ []; classes = class_a ∷ class_b ∷ []; selectors = [] };
  constants = [];
  places = [];
}

abbrev pub scope : Scope
scope = first_scope 1 false ty.Void

abbrev with_x : Scope
with_x = declared scope (codes "x") ty.Int

-- ---- 10

again : stmt_10 env (Stmt-F.Local (local int_type (ident (codes "x") 7))) with_x ≡ 7 ∷ []
unfolding declared
again = refl

another_name : stmt_10 env (Stmt-F.Local (local int_type (ident (codes "y") 7))) with_x ≡ []
unfolding declared
another_name = refl

unknown_type : stmt_10 env (Stmt-F.Local (local (class_type (codes "C") 6) (ident (codes "y") 7))) with_x ≡ 6 ∷ []
unfolding declared
unknown_type = refl

-- after its block a local may be declared again
behind_block : stmt_10 env (Stmt-F.Local (local int_type (ident (codes "x") 7))) (left scope with_x) ≡ []
unfolding declared back_at
behind_block = refl

-- ---- 11

number_condition : stmt_11 env (Stmt-F.While (tree.Number 7 1) (λ s. record { after = s; step = step.Empty; faults = [] })) scope ≡ 7 ∷ []
unfolding out-Ty out shown-the_row-Ty-0 shown hidden
number_condition = rw (attr_number env scope 7 1) refl

truth_condition : stmt_11 env (Stmt-F.While (tree.Bool 7 true) (λ s. record { after = s; step = step.Empty; faults = [] })) scope ≡ []
unfolding out-Ty out shown-the_row-Ty-0 shown hidden
truth_condition = rw (attr_bool env scope 7 true) refl

value_returned : stmt_11 env (Stmt-F.Return 6 (Some (tree.Number 7 1))) scope ≡ 7 ∷ []
unfolding out-Ty out shown-the_row-Ty-0 shown hidden
value_returned = rw (attr_number env scope 7 1) refl

nothing_returned : stmt_11 env (Stmt-F.Return 6 None) scope ≡ []
unfolding out-Ty out shown-the_row-Ty-0 shown hidden
nothing_returned = refl

-- ---- 14

super_inside : stmt_14 (Stmt-F.Super 7 []) ≡ 7 ∷ []
super_inside = refl

-- ---- 17

jump_outside : stmt_17 (Stmt-F.Break 7) scope ≡ 7 ∷ []
jump_outside = refl

jump_in_loop : stmt_17 (Stmt-F.Continue 7) (record scope { in_loop = true }) ≡ []
jump_in_loop = refl

-- ---- 18

number_statement : stmt_18 env (Stmt-F.Eval (tree.Number 7 1)) scope ≡ 7 ∷ []
number_statement = rw (attr_number env scope 7 1) refl

call_assigned : target_18 (part (denotes.Value ty.Int) form.Call 7) ≡ 7 ∷ []
call_assigned = refl

variable_assigned : target_18 (variable ty.Int 7) ≡ []
variable_assigned = refl

-- ---- 20

constant_assigned : constant_20 (form.Constant 7) ≡ 7 ∷ []
constant_assigned = refl

-- ---- 21

array_added : sum_21 (variable ty.Text 7) (variable (ty.Class 1) 9) ≡ 7 ∷ []
unfolding out-Ty out shown-the_row-Ty-0 shown hidden
array_added = refl

int_added : sum_21 (variable ty.Text 7) (variable ty.Int 9) ≡ []
unfolding out-Ty out shown-the_row-Ty-0 shown hidden
int_added = refl
