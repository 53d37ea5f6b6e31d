-- What a statement does to the scope, what it resolves to, and which rules it breaks (JLS 14). A statement is read by
-- one table for each question, given what is known of its parts.
use Rattle.std.specs.Prelude.{ℕ, Bool, true, false, ◌||◌, ◌&&◌, List, [], ◌∷◌, ◌++◌, map, length, Option, Some, None, option_map, is_some, is_none, unwrap_or, if◌then◌else◌}
use Rattle.std.specs.Option.{option_map_or}
use Rattle.core_tree.specs.declared.ty.Ty.{Ty}
use Rattle.core_tree.specs.declared.ty.Ty.TheVariants as ty
use Rattle.core_tree.specs.declared.operator.UpOp.{UpOp}
use Rattle.core_tree.specs.declared.operator.UpOp.TheVariants as up
use Rattle.core_tree.specs.declared.expr.Expr.{Expr as Core, out-Expr}
use Rattle.core_tree.specs.declared.expr.Expr.TheOpen.{Expr-F as Core-F}
use Rattle.core_tree.specs.declared.stmt.Target.{Target}
use Rattle.core_tree.specs.declared.stmt.Target.TheVariants as target
use Rattle.core_tree.specs.declared.stmt.Stmt.{Stmt as Step}
use Rattle.core_tree.specs.declared.stmt.Stmt.TheVariants as step
use Rattle.core_tree.specs.declared.stmt.Stmt.TheViews as view
use Rattle.core_tree.specs.Types.{is_int, is_boolean, is_string, is_void, is_object}
use Rattle.token_reading.specs.declared.fault.Fault.{Fault}
use Rattle.token_reading.specs.declared.name.Ident.{Ident}
use Rattle.java_syntax.specs.declared.operator.AssignOp.{AssignOp}
use Rattle.java_syntax.specs.declared.operator.AssignOp.TheVariants as assign
use Rattle.java_syntax.specs.declared.operator.StepOp.{StepOp}
use Rattle.java_syntax.specs.declared.operator.StepOp.TheVariants as count
use Rattle.java_syntax.specs.declared.expression.Expr.{Expr}
use Rattle.java_syntax.specs.declared.statement.LocalTree.{LocalTree}
use Rattle.java_syntax.specs.declared.statement.CatchTree.{CatchTree}
use Rattle.java_syntax.specs.declared.statement.Stmt.{Stmt}
use Rattle.java_syntax.specs.declared.statement.Stmt.TheOpen.{Stmt-F}
use Rattle.java_syntax.specs.declared.statement.Stmt.TheFolds.{fold-Stmt, fold-CatchTree}
use Rattle.java_names.specs.declared.scope.Scope.{Scope}
use Rattle.java_names.specs.Lookups.{is_below}
use Rattle.java_names.specs.Scope.{declared, left}
use Rattle.java_names.specs.Types.{declared_type, exception_type, is_string as is_string_name}
use Rattle.java_exprs.specs.declared.environment.Environment.{Environment}
use Rattle.java_denotes.specs.declared.denotation.Denotation.{Denotation}
use Rattle.java_denotes.specs.declared.denotation.Denotation.TheVariants as denotes
use Rattle.java_exprs.specs.declared.typed.Form.{Form}
use Rattle.java_exprs.specs.declared.typed.Form.TheVariants as form
use Rattle.java_exprs.specs.Attr.{Attr, unless, only_if, of_rule, value_faults, values_faults, statement_faults}
use Rattle.java_denotes.specs.Members.{value_type}
use Rattle.java_exprs.specs.Lookups.{class_named, local_named, unknown_type}
use Rattle.java_exprs.specs.Rules.{wants, wants_type, both_11, bitwise_11, of_types, sum_21}
use Rattle.java_exprs.specs.Checks.{attr}
use Rattle.java_statements.specs.Effects.{Part, CatchPart, StmtNode, CatchNode, sequence, clauses, inner, looped, branch}

-- ---- scopes

-- the type of a local; `Void` where its name is unknown
abbrev pub local_type : Environment → LocalTree → Ty
local_type env t = declared_type env.symbols.names t.ty

-- a local is in scope in its own initialiser
abbrev pub with_local : Environment → LocalTree → Scope → Scope
with_local env t s = declared s t.name.name (local_type env t)

-- the class that a catch clause takes; `Void` where its name is unknown
abbrev pub caught_type : Environment → Ident → Ty
caught_type env c = exception_type env.symbols.names c.name

-- the scopes of a `for`: after its start, after its updates, and after its body (JLS 14.14.1)
abbrev pub started : List Part → Scope → Scope
started start s = (sequence start s).after

abbrev pub updated : List Part → List Part → Scope → Scope
updated start update s = (sequence update (started start s)).after

abbrev pub after_of : Environment → StmtNode → Scope → Scope
after_of env (Stmt-F.Block all) s = left s (sequence all s).after
after_of env (Stmt-F.Local t) s = with_local env t s
after_of env (Stmt-F.If c body other) s = (branch other (inner body s).after).after
after_of env (Stmt-F.While c body) s = (looped body s).after
after_of env (Stmt-F.DoWhile body c) s = (looped body s).after
after_of env (Stmt-F.For start c update body) s = left s (looped body (updated start update s)).after
after_of env (Stmt-F.Try body catches last) s = (branch last (clauses catches (inner body s).after).after).after
after_of env _ s = s

-- ---- what a statement resolves to. It means nothing where a rule is broken

abbrev pub target_node : Core-F Core → Target
target_node (Core-F.Local n) = target.Local n
target_node (Core-F.Field o place) = target.Field o place
target_node (Core-F.Element a i) = target.Element a i
target_node _ = target.Local 0

-- the variable that an expression is
abbrev pub target_of : Attr → Target
target_of a = target_node (out-Expr a.core)

-- the operator of `+=` to a variable of this type
abbrev pub sum_op : Option Ty → UpOp
sum_op t = if option_map_or is_string t false then up.Concat else up.Add

-- the operator of a compound assignment to a variable of this type; none of `=`
abbrev pub update_op : AssignOp → Option Ty → Option UpOp
update_op assign.Assign t = None
update_op assign.Add t = Some (sum_op t)
update_op assign.Subtract t = Some up.Sub
update_op assign.Multiply t = Some up.Mul
update_op assign.Divide t = Some up.Div
update_op assign.Remainder t = Some up.Rem
update_op assign.BitAnd t = Some up.BitAnd
update_op assign.BitOr t = Some up.BitOr
update_op assign.BitXor t = Some up.BitXor
update_op assign.ShiftLeft t = Some up.Shl
update_op assign.ShiftRight t = Some up.Shr
update_op assign.UnsignedShiftRight t = Some up.Ushr

abbrev pub assigned_by : Option UpOp → Target → Core → Step
assigned_by None a e = step.Assign a e
assigned_by (Some op) a e = step.Update a op (Some e)

abbrev pub assigned : AssignOp → Attr → Attr → Step
assigned op a e = assigned_by (update_op op (value_type a.denotes)) (target_of a) e.core

abbrev pub counted_by : StepOp → Target → Step
counted_by count.Increment a = step.Update a up.Add None
counted_by count.Decrement a = step.Update a up.Sub None

abbrev pub counted : StepOp → Attr → Step
counted op a = counted_by op (target_of a)

-- a print, or an expression whose result is dropped
abbrev pub evaluated : Core → Option Denotation → Step
evaluated core (Some (denotes.Print p)) = step.Print p.ends_line (if p.has_argument then Some core else None)
evaluated core _ = step.Eval core

-- an expression that may be left out
abbrev pub optional_core : Environment → Scope → Option Expr → Option Core
optional_core env s e = option_map (λ it. (attr env s it).core) e

abbrev pub step_of : Environment → StmtNode → Scope → Step
step_of env Stmt-F.Empty s = step.Empty
step_of env (Stmt-F.Block all) s = view.Block (sequence all s).steps
step_of env (Stmt-F.Local t) s = step.Declare (length s.slots) (local_type env t) (optional_core env (with_local env t s) t.value)
step_of env (Stmt-F.Assign a op e) s = assigned op (attr env s a) (attr env s e)
step_of env (Stmt-F.Step op side a) s = counted op (attr env s a)
step_of env (Stmt-F.Eval e) s = evaluated (attr env s e).core (attr env s e).denotes
step_of env (Stmt-F.Super at given) s = step.Empty
step_of env (Stmt-F.If c body other) s = view.If (attr env s c).core (inner body s).step (branch other (inner body s).after).step
step_of env (Stmt-F.While c body) s = view.While (attr env s c).core (looped body s).step
step_of env (Stmt-F.DoWhile body c) s = view.DoWhile (looped body s).step (attr env s c).core
step_of env (Stmt-F.For start c update body) s =
    view.For (sequence start s).steps (optional_core env (started start s) c) (sequence update (started start s)).steps (looped body (updated start update s)).step
step_of env (Stmt-F.Return at e) s = step.Return (optional_core env s e)
step_of env (Stmt-F.Break at) s = step.Break
step_of env (Stmt-F.Continue at) s = step.Continue
step_of env (Stmt-F.Throw e) s = step.Throw (attr env s e).core
step_of env (Stmt-F.Try body catches last) s =
    view.Try (inner body s).step (clauses catches (inner body s).after).handlers (branch last (clauses catches (inner body s).after).after).step

-- ---- 10: a name is unknown, or a local is declared again in its scope

abbrev pub again_10 : Scope → Ident → List ℕ
again_10 s x = unless (is_none (local_named s x.name)) x.at

abbrev pub stmt_10 : Environment → StmtNode → Scope → List ℕ
stmt_10 env (Stmt-F.Local t) s = unknown_type env t.ty ++ again_10 s t.name
stmt_10 env _ s = []

-- a class after `catch` or `throws` is known; String is a type, and is for rule 11
abbrev pub exception_10 : Environment → Ident → List ℕ
exception_10 env c = unless (is_some (class_named env c.name) || is_string_name c.name) c.at

abbrev pub catch_10 : Environment → CatchNode → Scope → List ℕ
catch_10 env c s = exception_10 env c.class ++ again_10 s c.name

-- ---- 11: a type doesn't fit

-- a condition
abbrev pub condition_11 : Environment → Scope → Expr → List ℕ
condition_11 env s c = wants is_boolean (attr env s c)

-- a String takes what concatenation joins, but for instances and arrays, which are for rule 21; other variables take
-- ints
abbrev pub sum_11 : Attr → Attr → List ℕ
sum_11 a e = of_types (λ t u. if is_string t || (is_object t && is_string u) then [] else both_11 is_int a e) a e

abbrev pub assign_11 : Environment → AssignOp → Attr → Attr → List ℕ
assign_11 env assign.Assign a e = option_map_or (λ t. wants_type env t e) (value_type a.denotes) []
assign_11 env assign.Add a e = sum_11 a e
assign_11 env assign.BitAnd a e = bitwise_11 a e
assign_11 env assign.BitOr a e = bitwise_11 a e
assign_11 env assign.BitXor a e = bitwise_11 a e
assign_11 env _ a e = both_11 is_int a e

-- a method with a result returns a value that fits it, any other body returns none
abbrev pub return_11 : Environment → ℕ → Option Expr → Scope → List ℕ
return_11 env at None s = unless (is_void s.answer) at
return_11 env at (Some e) s = if is_void s.answer then (attr env s e).at ∷ [] else wants_type env s.answer (attr env s e)

-- a Throwable, or null
abbrev pub throwable : Ty
throwable = ty.Class 1

abbrev pub stmt_11 : Environment → StmtNode → Scope → List ℕ
stmt_11 env (Stmt-F.Local t) s = option_map_or (λ e. wants_type env (local_type env t) (attr env (with_local env t s) e)) t.value []
stmt_11 env (Stmt-F.Assign a op e) s = assign_11 env op (attr env s a) (attr env s e)
stmt_11 env (Stmt-F.Step op side a) s = wants is_int (attr env s a)
stmt_11 env (Stmt-F.If c body other) s = condition_11 env s c
stmt_11 env (Stmt-F.While c body) s = condition_11 env s c
stmt_11 env (Stmt-F.DoWhile body c) s = condition_11 env s c
stmt_11 env (Stmt-F.For start c update body) s = option_map_or (condition_11 env (started start s)) c []
stmt_11 env (Stmt-F.Return at e) s = return_11 env at e s
stmt_11 env (Stmt-F.Throw e) s = wants_type env throwable (attr env s e)
stmt_11 env _ s = []

-- a class after `catch` or `throws` is Throwable or below it
abbrev pub exception_11 : Environment → Ident → List ℕ
exception_11 env c = option_map_or (λ class. unless (is_below env.symbols class 1) c.at) (class_named env c.name) (only_if (is_string_name c.name) c.at)

abbrev pub catch_11 : Environment → CatchNode → List ℕ
catch_11 env c = exception_11 env c.class

-- ---- 14: `super(..)` other than as the first statement of a constructor; that one is read with the constructor

abbrev pub stmt_14 : StmtNode → List ℕ
stmt_14 (Stmt-F.Super at given) = at ∷ []
stmt_14 _ = []

-- ---- 17: `break` or `continue` outside a loop

abbrev pub stmt_17 : StmtNode → Scope → List ℕ
stmt_17 (Stmt-F.Break at) s = unless s.in_loop at
stmt_17 (Stmt-F.Continue at) s = unless s.in_loop at
stmt_17 _ s = []

-- ---- 18: an expression statement that is neither a call nor a `new`, or an assignment target that isn't a local, field or element

abbrev pub is_call : Form → Bool
is_call form.Call = true
is_call _ = false

-- a constant is a field too, and is for rule 20
abbrev pub is_target : Form → Bool
is_target form.Variable = true
is_target (form.Constant at) = true
is_target _ = false

-- nothing is asked of a target whose name is unknown
abbrev pub target_18 : Attr → List ℕ
target_18 a = unless (is_none a.denotes || is_target a.form) a.at

abbrev pub stmt_18 : Environment → StmtNode → Scope → List ℕ
stmt_18 env (Stmt-F.Assign a op e) s = target_18 (attr env s a)
stmt_18 env (Stmt-F.Step op side a) s = target_18 (attr env s a)
stmt_18 env (Stmt-F.Eval e) s = unless (is_call (attr env s e).form) (attr env s e).at
stmt_18 env _ s = []

-- ---- 20 (6): an assignment to a constant; at its name

abbrev pub constant_20 : Form → List ℕ
constant_20 (form.Constant at) = at ∷ []
constant_20 _ = []

abbrev pub stmt_20 : Environment → StmtNode → Scope → List ℕ
stmt_20 env (Stmt-F.Assign a op e) s = constant_20 (attr env s a).form
stmt_20 env (Stmt-F.Step op side a) s = constant_20 (attr env s a).form
stmt_20 env _ s = []

-- ---- 21: `+=` with a String and an instance or array

abbrev pub assign_21 : AssignOp → Attr → Attr → List ℕ
assign_21 assign.Add a e = sum_21 a e
assign_21 _ a e = []

abbrev pub stmt_21 : Environment → StmtNode → Scope → List ℕ
stmt_21 env (Stmt-F.Assign a op e) s = assign_21 op (attr env s a) (attr env s e)
stmt_21 env _ s = []

-- ---- all that is broken

abbrev pub stmt_broken_here : Environment → StmtNode → Scope → List Fault
stmt_broken_here env n s =
    of_rule 10 (stmt_10 env n s) (of_rule 11 (stmt_11 env n s) (of_rule 14 (stmt_14 n) (of_rule 17 (stmt_17 n s)
    (of_rule 18 (stmt_18 env n s) (of_rule 20 (stmt_20 env n s) (of_rule 21 (stmt_21 env n s) []))))))

-- in a value that may be left out
abbrev pub optional_faults : Environment → Scope → Option Expr → List Fault
optional_faults env s e = option_map_or (λ it. value_faults (attr env s it)) e []

abbrev pub stmt_broken_below : Environment → StmtNode → Scope → List Fault
stmt_broken_below env (Stmt-F.Block all) s = (sequence all s).faults
stmt_broken_below env (Stmt-F.Local t) s = optional_faults env (with_local env t s) t.value
stmt_broken_below env (Stmt-F.Assign a op e) s = value_faults (attr env s a) ++ value_faults (attr env s e)
stmt_broken_below env (Stmt-F.Step op side a) s = value_faults (attr env s a)
stmt_broken_below env (Stmt-F.Eval e) s = statement_faults (attr env s e)
stmt_broken_below env (Stmt-F.Super at given) s = values_faults (map (attr env s) given)
stmt_broken_below env (Stmt-F.If c body other) s = value_faults (attr env s c) ++ ((inner body s).faults ++ (branch other (inner body s).after).faults)
stmt_broken_below env (Stmt-F.While c body) s = value_faults (attr env s c) ++ (looped body s).faults
stmt_broken_below env (Stmt-F.DoWhile body c) s = (looped body s).faults ++ value_faults (attr env s c)
stmt_broken_below env (Stmt-F.For start c update body) s =
    (sequence start s).faults ++ (optional_faults env (started start s) c ++ ((sequence update (started start s)).faults ++ (looped body (updated start update s)).faults))
stmt_broken_below env (Stmt-F.Return at e) s = optional_faults env s e
stmt_broken_below env (Stmt-F.Throw e) s = value_faults (attr env s e)
stmt_broken_below env (Stmt-F.Try body catches last) s =
    (inner body s).faults ++ ((clauses catches (inner body s).after).faults ++ (branch last (clauses catches (inner body s).after).after).faults)
stmt_broken_below env _ s = []

abbrev pub effect_at : Environment → StmtNode → Part
effect_at env n s = record { after = after_of env n s; step = step_of env n s; faults = stmt_broken_below env n s ++ stmt_broken_here env n s }

-- the scope of a catch clause's block
abbrev pub with_caught : Environment → CatchNode → Scope → Scope
with_caught env c s = declared s c.name.name (caught_type env c.class)

abbrev pub catch_at : Environment → CatchNode → CatchPart
catch_at env c s = record {
  after = left s (c.body (with_caught env c s)).after;
  handler = record { class = unwrap_or (class_named env c.class.name) 0; slot = length s.slots; body = (c.body (with_caught env c s)).step };
  faults = (c.body (with_caught env c s)).faults ++ of_rule 10 (catch_10 env c s) (of_rule 11 (catch_11 env c) []);
}

-- what is known of a statement, and of a catch clause
unfoldable pub effect : Environment → Stmt → Part
effect env = fold-Stmt Part CatchPart (effect_at env) (catch_at env)

unfoldable pub catch_effect : Environment → CatchTree → CatchPart
catch_effect env = fold-CatchTree Part CatchPart (effect_at env) (catch_at env)
