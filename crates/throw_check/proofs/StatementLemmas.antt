-- The points of each kind of statement, from those of its parts.
use Rattle.std.proofs.Common.{◌≡◌, ◌∙◌, ℕ, List, [], ◌∷◌, ◌++◌, map, flat_map, Option, Some, None, refl, sym, ap, arith}
use Rattle.std.proofs.lemmas.Grind.{common_steps}
use Rattle.std.specs.Prelude.{option_map}
use Rattle.java_syntax.specs.declared.operator.AssignOp.{AssignOp}
use Rattle.java_syntax.specs.declared.operator.StepOp.{StepOp}
use Rattle.java_syntax.specs.declared.operator.Fix.{Fix}
use Rattle.java_syntax.specs.declared.expression.Expr.{Expr}
use Rattle.java_syntax.specs.declared.statement.LocalTree.{LocalTree}
use Rattle.java_syntax.specs.declared.statement.CatchTree.{CatchTree, roll-out-CatchTree, out-CatchTree}
use Rattle.java_syntax.specs.declared.statement.Stmt.{Stmt}
use Rattle.java_syntax.specs.declared.statement.Stmt.TheVariants as tree
use Rattle.java_syntax.specs.declared.statement.Stmt.TheOpen.{Stmt-F}
use Rattle.java_syntax.specs.declared.statement.Stmt.TheFolds.{para-Stmt, para-roll-Stmt, para-CatchTree, para-roll-CatchTree}
use Rattle.token_reading.specs.declared.name.ParamTree.{ParamTree}
use Rattle.java_names.specs.Types.{declared_type, exception_type}
use Rattle.java_names.specs.declared.scope.Scope.{Scope}
use Rattle.throw_check.specs.Files.{with_params}
use Rattle.java_names.specs.declared.symbol.Symbols.{Symbols}
use Rattle.throw_check.specs.Statements.{Part, behind, behind_all, branch, caught, in_order, turn_points, uncaught, points, points_of, clause, clause_points, with_points, clause_with_points, with_local}
use Rattle.throw_check.specs.Walks.{classes_of, clauses_points}

pub points_empty : (symbols : Symbols) (s : Scope) → points symbols tree.Empty s ≡ points_of symbols Stmt-F.Empty s
unfolding points clause
points_empty symbols s = ap (λ part. part s) (ap (para-Stmt Part Part (points_of symbols) (clause_points symbols)) (sym tree.rolls-Empty) ∙ para-roll-Stmt Part Part (points_of symbols) (clause_points symbols) Stmt-F.Empty)

pub points_block : (symbols : Symbols) (all : List Stmt) (s : Scope) → points symbols (tree.Block all) s ≡ points_of symbols (Stmt-F.Block (map (with_points symbols) all)) s
unfolding points clause
points_block symbols all s = ap (λ part. part s) (ap (para-Stmt Part Part (points_of symbols) (clause_points symbols)) (sym (tree.rolls-Block all)) ∙ para-roll-Stmt Part Part (points_of symbols) (clause_points symbols) (Stmt-F.Block all))

pub points_local : (symbols : Symbols) (t : LocalTree) (s : Scope) → points symbols (tree.Local t) s ≡ points_of symbols (Stmt-F.Local t) s
unfolding points clause
points_local symbols t s = ap (λ part. part s) (ap (para-Stmt Part Part (points_of symbols) (clause_points symbols)) (sym (tree.rolls-Local t)) ∙ para-roll-Stmt Part Part (points_of symbols) (clause_points symbols) (Stmt-F.Local t))

pub points_assign : (symbols : Symbols) (a : Expr) (op : AssignOp) (e : Expr) (s : Scope) → points symbols (tree.Assign a op e) s ≡ points_of symbols (Stmt-F.Assign a op e) s
unfolding points clause
points_assign symbols a op e s = ap (λ part. part s) (ap (para-Stmt Part Part (points_of symbols) (clause_points symbols)) (sym (tree.rolls-Assign a op e)) ∙ para-roll-Stmt Part Part (points_of symbols) (clause_points symbols) (Stmt-F.Assign a op e))

pub points_step : (symbols : Symbols) (op : StepOp) (side : Fix) (a : Expr) (s : Scope) → points symbols (tree.Step op side a) s ≡ points_of symbols (Stmt-F.Step op side a) s
unfolding points clause
points_step symbols op side a s = ap (λ part. part s) (ap (para-Stmt Part Part (points_of symbols) (clause_points symbols)) (sym (tree.rolls-Step op side a)) ∙ para-roll-Stmt Part Part (points_of symbols) (clause_points symbols) (Stmt-F.Step op side a))

pub points_eval : (symbols : Symbols) (e : Expr) (s : Scope) → points symbols (tree.Eval e) s ≡ points_of symbols (Stmt-F.Eval e) s
unfolding points clause
points_eval symbols e s = ap (λ part. part s) (ap (para-Stmt Part Part (points_of symbols) (clause_points symbols)) (sym (tree.rolls-Eval e)) ∙ para-roll-Stmt Part Part (points_of symbols) (clause_points symbols) (Stmt-F.Eval e))

pub points_super : (symbols : Symbols) (at : ℕ) (given : List Expr) (s : Scope) → points symbols (tree.Super at given) s ≡ points_of symbols (Stmt-F.Super at given) s
unfolding points clause
points_super symbols at given s = ap (λ part. part s) (ap (para-Stmt Part Part (points_of symbols) (clause_points symbols)) (sym (tree.rolls-Super at given)) ∙ para-roll-Stmt Part Part (points_of symbols) (clause_points symbols) (Stmt-F.Super at given))

pub points_if : (symbols : Symbols) (c : Expr) (body : Stmt) (other : Option Stmt) (s : Scope) → points symbols (tree.If c body other) s ≡ points_of symbols (Stmt-F.If c (with_points symbols body) (option_map (with_points symbols) other)) s
unfolding points clause
points_if symbols c body None s = ap (λ part. part s) (ap (para-Stmt Part Part (points_of symbols) (clause_points symbols)) (sym (tree.rolls-If c body None)) ∙ para-roll-Stmt Part Part (points_of symbols) (clause_points symbols) (Stmt-F.If c body None))
points_if symbols c body (Some k) s = ap (λ part. part s) (ap (para-Stmt Part Part (points_of symbols) (clause_points symbols)) (sym (tree.rolls-If c body (Some k))) ∙ para-roll-Stmt Part Part (points_of symbols) (clause_points symbols) (Stmt-F.If c body (Some k)))

pub points_while : (symbols : Symbols) (c : Expr) (body : Stmt) (s : Scope) → points symbols (tree.While c body) s ≡ points_of symbols (Stmt-F.While c (with_points symbols body)) s
unfolding points clause
points_while symbols c body s = ap (λ part. part s) (ap (para-Stmt Part Part (points_of symbols) (clause_points symbols)) (sym (tree.rolls-While c body)) ∙ para-roll-Stmt Part Part (points_of symbols) (clause_points symbols) (Stmt-F.While c body))

pub points_do_while : (symbols : Symbols) (body : Stmt) (c : Expr) (s : Scope) → points symbols (tree.DoWhile body c) s ≡ points_of symbols (Stmt-F.DoWhile (with_points symbols body) c) s
unfolding points clause
points_do_while symbols body c s = ap (λ part. part s) (ap (para-Stmt Part Part (points_of symbols) (clause_points symbols)) (sym (tree.rolls-DoWhile body c)) ∙ para-roll-Stmt Part Part (points_of symbols) (clause_points symbols) (Stmt-F.DoWhile body c))

pub points_for : (symbols : Symbols) (start : List Stmt) (c : Option Expr) (update : List Stmt) (body : Stmt) (s : Scope) → points symbols (tree.For start c update body) s ≡ points_of symbols (Stmt-F.For (map (with_points symbols) start) c (map (with_points symbols) update) (with_points symbols body)) s
unfolding points clause
points_for symbols start c update body s = ap (λ part. part s) (ap (para-Stmt Part Part (points_of symbols) (clause_points symbols)) (sym (tree.rolls-For start c update body)) ∙ para-roll-Stmt Part Part (points_of symbols) (clause_points symbols) (Stmt-F.For start c update body))

pub points_return : (symbols : Symbols) (at : ℕ) (e : Option Expr) (s : Scope) → points symbols (tree.Return at e) s ≡ points_of symbols (Stmt-F.Return at e) s
unfolding points clause
points_return symbols at e s = ap (λ part. part s) (ap (para-Stmt Part Part (points_of symbols) (clause_points symbols)) (sym (tree.rolls-Return at e)) ∙ para-roll-Stmt Part Part (points_of symbols) (clause_points symbols) (Stmt-F.Return at e))

pub points_break : (symbols : Symbols) (at : ℕ) (s : Scope) → points symbols (tree.Break at) s ≡ points_of symbols (Stmt-F.Break at) s
unfolding points clause
points_break symbols at s = ap (λ part. part s) (ap (para-Stmt Part Part (points_of symbols) (clause_points symbols)) (sym (tree.rolls-Break at)) ∙ para-roll-Stmt Part Part (points_of symbols) (clause_points symbols) (Stmt-F.Break at))

pub points_continue : (symbols : Symbols) (at : ℕ) (s : Scope) → points symbols (tree.Continue at) s ≡ points_of symbols (Stmt-F.Continue at) s
unfolding points clause
points_continue symbols at s = ap (λ part. part s) (ap (para-Stmt Part Part (points_of symbols) (clause_points symbols)) (sym (tree.rolls-Continue at)) ∙ para-roll-Stmt Part Part (points_of symbols) (clause_points symbols) (Stmt-F.Continue at))

pub points_throw : (symbols : Symbols) (e : Expr) (s : Scope) → points symbols (tree.Throw e) s ≡ points_of symbols (Stmt-F.Throw e) s
unfolding points clause
points_throw symbols e s = ap (λ part. part s) (ap (para-Stmt Part Part (points_of symbols) (clause_points symbols)) (sym (tree.rolls-Throw e)) ∙ para-roll-Stmt Part Part (points_of symbols) (clause_points symbols) (Stmt-F.Throw e))

pub points_try : (symbols : Symbols) (body : Stmt) (clauses : List CatchTree) (last : Option Stmt) (s : Scope) → points symbols (tree.Try body clauses last) s ≡ points_of symbols (Stmt-F.Try (with_points symbols body) (map (clause_with_points symbols) clauses) (option_map (with_points symbols) last)) s
unfolding points clause
points_try symbols body clauses None s = ap (λ part. part s) (ap (para-Stmt Part Part (points_of symbols) (clause_points symbols)) (sym (tree.rolls-Try body clauses None)) ∙ para-roll-Stmt Part Part (points_of symbols) (clause_points symbols) (Stmt-F.Try body clauses None))
points_try symbols body clauses (Some k) s = ap (λ part. part s) (ap (para-Stmt Part Part (points_of symbols) (clause_points symbols)) (sym (tree.rolls-Try body clauses (Some k))) ∙ para-roll-Stmt Part Part (points_of symbols) (clause_points symbols) (Stmt-F.Try body clauses (Some k)))

pub points_clause : (symbols : Symbols) (c : CatchTree) (s : Scope) → clause symbols c s ≡ points symbols c.body (with_local s c.name (exception_type symbols.names c.class.name))
unfolding points clause
points_clause symbols c s = ap (λ part. part s) (ap (para-CatchTree Part Part (points_of symbols) (clause_points symbols)) (sym (roll-out-CatchTree c)) ∙ para-roll-CatchTree Part Part (points_of symbols) (clause_points symbols) (out-CatchTree c))

-- ---- the scope after each kind of statement

pub behind_empty : (symbols : Symbols) (s : Scope) → behind symbols tree.Empty s ≡ s
behind_empty symbols s = rw (tree.outs-Empty) refl

pub behind_block : (symbols : Symbols) (all : List Stmt) (s : Scope) → behind symbols (tree.Block all) s ≡ s
behind_block symbols all s = rw (tree.outs-Block all) refl

pub behind_assign : (symbols : Symbols) (a : Expr) (op : AssignOp) (e : Expr) (s : Scope) → behind symbols (tree.Assign a op e) s ≡ s
behind_assign symbols a op e s = rw (tree.outs-Assign a op e) refl

pub behind_step : (symbols : Symbols) (op : StepOp) (side : Fix) (a : Expr) (s : Scope) → behind symbols (tree.Step op side a) s ≡ s
behind_step symbols op side a s = rw (tree.outs-Step op side a) refl

pub behind_eval : (symbols : Symbols) (e : Expr) (s : Scope) → behind symbols (tree.Eval e) s ≡ s
behind_eval symbols e s = rw (tree.outs-Eval e) refl

pub behind_super : (symbols : Symbols) (at : ℕ) (given : List Expr) (s : Scope) → behind symbols (tree.Super at given) s ≡ s
behind_super symbols at given s = rw (tree.outs-Super at given) refl

pub behind_if : (symbols : Symbols) (c : Expr) (body : Stmt) (other : Option Stmt) (s : Scope) → behind symbols (tree.If c body other) s ≡ s
behind_if symbols c body other s = rw (tree.outs-If c body other) refl

pub behind_while : (symbols : Symbols) (c : Expr) (body : Stmt) (s : Scope) → behind symbols (tree.While c body) s ≡ s
behind_while symbols c body s = rw (tree.outs-While c body) refl

pub behind_do_while : (symbols : Symbols) (body : Stmt) (c : Expr) (s : Scope) → behind symbols (tree.DoWhile body c) s ≡ s
behind_do_while symbols body c s = rw (tree.outs-DoWhile body c) refl

pub behind_for : (symbols : Symbols) (start : List Stmt) (c : Option Expr) (update : List Stmt) (body : Stmt) (s : Scope) → behind symbols (tree.For start c update body) s ≡ s
behind_for symbols start c update body s = rw (tree.outs-For start c update body) refl

pub behind_return : (symbols : Symbols) (at : ℕ) (e : Option Expr) (s : Scope) → behind symbols (tree.Return at e) s ≡ s
behind_return symbols at e s = rw (tree.outs-Return at e) refl

pub behind_break : (symbols : Symbols) (at : ℕ) (s : Scope) → behind symbols (tree.Break at) s ≡ s
behind_break symbols at s = rw (tree.outs-Break at) refl

pub behind_continue : (symbols : Symbols) (at : ℕ) (s : Scope) → behind symbols (tree.Continue at) s ≡ s
behind_continue symbols at s = rw (tree.outs-Continue at) refl

pub behind_throw : (symbols : Symbols) (e : Expr) (s : Scope) → behind symbols (tree.Throw e) s ≡ s
behind_throw symbols e s = rw (tree.outs-Throw e) refl

pub behind_try : (symbols : Symbols) (body : Stmt) (clauses : List CatchTree) (last : Option Stmt) (s : Scope) → behind symbols (tree.Try body clauses last) s ≡ s
behind_try symbols body clauses last s = rw (tree.outs-Try body clauses last) refl

pub behind_local : (symbols : Symbols) (t : LocalTree) (s : Scope) → behind symbols (tree.Local t) s ≡ with_local s t.name (declared_type symbols.names t.ty)
behind_local symbols t s = rw (tree.outs-Local t) refl

pub ruleset behind_kinds = (
  behind_empty,
  behind_block,
  behind_assign,
  behind_step,
  behind_eval,
  behind_super,
  behind_if,
  behind_while,
  behind_do_while,
  behind_for,
  behind_return,
  behind_break,
  behind_continue,
  behind_throw,
  behind_try,
  behind_local,
)

-- ---- statements in order

pub in_order_step : (symbols : Symbols) (k : Stmt) (ks : List Stmt) (s : Scope) → in_order symbols (map (with_points symbols) (k ∷ ks)) s ≡ points symbols k s ++ in_order symbols (map (with_points symbols) ks) (behind symbols k s)
unfolding in_order
in_order_step symbols k ks s = refl

pub in_order_end : (symbols : Symbols) (s : Scope) → in_order symbols [] s ≡ []
unfolding in_order
in_order_end symbols s = refl

pub behind_all_step : (symbols : Symbols) (k : Stmt) (ks : List Stmt) (s : Scope) → behind_all symbols (k ∷ ks) s ≡ behind_all symbols ks (behind symbols k s)
unfolding behind_all
behind_all_step symbols k ks s = refl

pub behind_all_end : (symbols : Symbols) (s : Scope) → behind_all symbols [] s ≡ s
unfolding behind_all
behind_all_end symbols s = refl

-- ---- a `for` and a `try`, by its parts alone

same_statements : (symbols : Symbols) (ks : List Stmt) → map (λ k. k.0) (map (with_points symbols) ks) ≡ ks
same_statements symbols [] = refl
same_statements symbols (k ∷ ks) = ap (λ more. k ∷ more) (same_statements symbols ks)

pub points_for_parts : (symbols : Symbols) (start : List Stmt) (c : Option Expr) (update : List Stmt) (body : Stmt) (s : Scope)
    → points symbols (tree.For start c update body) s
    ≡ in_order symbols (map (with_points symbols) start) s ++ turn_points symbols c (map (with_points symbols) update) (with_points symbols body) (behind_all symbols start s)
points_for_parts symbols start c update body s =
    points_for symbols start c update body s
    ∙ ap (λ ks. in_order symbols (map (with_points symbols) start) s ++ turn_points symbols c (map (with_points symbols) update) (with_points symbols body) (behind_all symbols ks s)) (same_statements symbols start)

caught_classes : (symbols : Symbols) (cs : List CatchTree) → caught symbols (map (clause_with_points symbols) cs) ≡ classes_of symbols cs
caught_classes symbols [] = refl
caught_classes symbols (c ∷ cs) = grind (arith, common_steps, caught_classes symbols cs)

each_clause_points : (symbols : Symbols) (cs : List CatchTree) (s : Scope) → flat_map (λ c. c.1 s) (map (clause_with_points symbols) cs) ≡ clauses_points symbols cs s
each_clause_points symbols [] s = refl
each_clause_points symbols (c ∷ cs) s = ap (λ more. clause symbols c s ++ more) (each_clause_points symbols cs s)

pub points_try_parts : (symbols : Symbols) (body : Stmt) (clauses : List CatchTree) (last : Option Stmt) (s : Scope)
    → points symbols (tree.Try body clauses last) s
    ≡ uncaught symbols (classes_of symbols clauses) (points symbols body s) ++ (clauses_points symbols clauses s ++ branch (option_map (with_points symbols) last) s)
points_try_parts symbols body clauses last s = points_try symbols body clauses last s ∙ rw (caught_classes symbols clauses, each_clause_points symbols clauses s) refl

pub ruleset points_of_kinds = (
  points_empty,
  points_block,
  points_local,
  points_assign,
  points_step,
  points_eval,
  points_super,
  points_if,
  points_while,
  points_do_while,
  points_for_parts,
  points_return,
  points_break,
  points_continue,
  points_throw,
  points_try_parts,
)

-- ---- parameters

pub with_params_step : (symbols : Symbols) (p : ParamTree) (ps : List ParamTree) (s : Scope)
    → with_params symbols (p ∷ ps) s ≡ with_params symbols ps (with_local s p.name (declared_type symbols.names p.ty))
unfolding with_params
with_params_step symbols p ps s = refl

pub with_params_end : (symbols : Symbols) (s : Scope) → with_params symbols [] s ≡ s
unfolding with_params
with_params_end symbols s = refl
