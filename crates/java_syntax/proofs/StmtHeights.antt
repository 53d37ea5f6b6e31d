-- The height of each kind of statement, by those of its parts.
use Rattle.std.proofs.Common.{◌≡◌, ◌∙◌, ℕ, ◌+◌, max, List, Option, Some, None, option_map, map, sym, ap}
use Rattle.java_syntax.specs.declared.expression.Expr.{Expr}
use Rattle.java_syntax.specs.declared.operator.AssignOp.{AssignOp}
use Rattle.java_syntax.specs.declared.operator.Fix.{Fix}
use Rattle.java_syntax.specs.declared.operator.StepOp.{StepOp}
use Rattle.java_syntax.specs.declared.statement.CatchTree.{CatchTree, out-CatchTree}
use Rattle.java_syntax.specs.declared.statement.LocalTree.{LocalTree}
use Rattle.java_syntax.specs.declared.statement.Stmt.{Stmt}
use Rattle.java_syntax.specs.declared.statement.Stmt.TheFolds.{fold-roll-Stmt, fold_out-CatchTree}
use Rattle.java_syntax.specs.declared.statement.Stmt.TheOpen.{Stmt-F}
use Rattle.java_syntax.specs.declared.statement.Stmt.TheVariants as s
use Rattle.java_syntax.specs.declared.statement.Stmt.TheVariants.{rolls-Empty, rolls-Block, rolls-Local, rolls-Assign, rolls-Step, rolls-Eval, rolls-Super, rolls-If, rolls-While, rolls-DoWhile, rolls-For, rolls-Return, rolls-Break, rolls-Continue, rolls-Throw, rolls-Try}
use Rattle.token_reading.specs.Height.{highest, type_height}
use Rattle.java_syntax.specs.Height.{expr_height, value_height, part_height, stmt_layer_height, catch_layer_height, stmt_height, catch_height}

pub height_empty : stmt_height s.Empty ≡ 1
height_empty = ap stmt_height (sym rolls-Empty) ∙ fold-roll-Stmt ℕ ℕ stmt_layer_height catch_layer_height Stmt-F.Empty

pub height_block : (all : List Stmt) → stmt_height (s.Block all) ≡ highest (map stmt_height all) + 1
height_block all = ap stmt_height (sym (rolls-Block all)) ∙ fold-roll-Stmt ℕ ℕ stmt_layer_height catch_layer_height (Stmt-F.Block all)

pub height_local : (t : LocalTree) → stmt_height (s.Local t) ≡ max (type_height t.ty) (value_height t.value) + 1
height_local t = ap stmt_height (sym (rolls-Local t)) ∙ fold-roll-Stmt ℕ ℕ stmt_layer_height catch_layer_height (Stmt-F.Local t)

pub height_assign : (a : Expr) (op : AssignOp) (e : Expr) → stmt_height (s.Assign a op e) ≡ max (expr_height a) (expr_height e) + 1
height_assign a op e = ap stmt_height (sym (rolls-Assign a op e)) ∙ fold-roll-Stmt ℕ ℕ stmt_layer_height catch_layer_height (Stmt-F.Assign a op e)

pub height_step : (op : StepOp) (side : Fix) (a : Expr) → stmt_height (s.Step op side a) ≡ expr_height a + 1
height_step op side a = ap stmt_height (sym (rolls-Step op side a)) ∙ fold-roll-Stmt ℕ ℕ stmt_layer_height catch_layer_height (Stmt-F.Step op side a)

pub height_eval : (e : Expr) → stmt_height (s.Eval e) ≡ expr_height e + 1
height_eval e = ap stmt_height (sym (rolls-Eval e)) ∙ fold-roll-Stmt ℕ ℕ stmt_layer_height catch_layer_height (Stmt-F.Eval e)

pub height_super : (at : ℕ) (given : List Expr) → stmt_height (s.Super at given) ≡ highest (map expr_height given) + 1
height_super at given = ap stmt_height (sym (rolls-Super at given)) ∙ fold-roll-Stmt ℕ ℕ stmt_layer_height catch_layer_height (Stmt-F.Super at given)

pub height_if : (c : Expr) (t : Stmt) (other : Option Stmt)
    → stmt_height (s.If c t other) ≡ max (expr_height c) (max (stmt_height t) (part_height (option_map stmt_height other))) + 1
height_if c t None = ap stmt_height (sym (rolls-If c t None)) ∙ fold-roll-Stmt ℕ ℕ stmt_layer_height catch_layer_height (Stmt-F.If c t None)
height_if c t (Some other) =
    ap stmt_height (sym (rolls-If c t (Some other))) ∙ fold-roll-Stmt ℕ ℕ stmt_layer_height catch_layer_height (Stmt-F.If c t (Some other))

pub height_while : (c : Expr) (t : Stmt) → stmt_height (s.While c t) ≡ max (expr_height c) (stmt_height t) + 1
height_while c t = ap stmt_height (sym (rolls-While c t)) ∙ fold-roll-Stmt ℕ ℕ stmt_layer_height catch_layer_height (Stmt-F.While c t)

pub height_do_while : (t : Stmt) (c : Expr) → stmt_height (s.DoWhile t c) ≡ max (stmt_height t) (expr_height c) + 1
height_do_while t c = ap stmt_height (sym (rolls-DoWhile t c)) ∙ fold-roll-Stmt ℕ ℕ stmt_layer_height catch_layer_height (Stmt-F.DoWhile t c)

pub height_for : (start : List Stmt) (c : Option Expr) (update : List Stmt) (t : Stmt)
    → stmt_height (s.For start c update t) ≡ max (highest (map stmt_height start)) (max (value_height c) (max (highest (map stmt_height update)) (stmt_height t))) + 1
height_for start c update t =
    ap stmt_height (sym (rolls-For start c update t)) ∙ fold-roll-Stmt ℕ ℕ stmt_layer_height catch_layer_height (Stmt-F.For start c update t)

pub height_return : (at : ℕ) (e : Option Expr) → stmt_height (s.Return at e) ≡ value_height e + 1
height_return at e = ap stmt_height (sym (rolls-Return at e)) ∙ fold-roll-Stmt ℕ ℕ stmt_layer_height catch_layer_height (Stmt-F.Return at e)

pub height_break : (at : ℕ) → stmt_height (s.Break at) ≡ 1
height_break at = ap stmt_height (sym (rolls-Break at)) ∙ fold-roll-Stmt ℕ ℕ stmt_layer_height catch_layer_height (Stmt-F.Break at)

pub height_continue : (at : ℕ) → stmt_height (s.Continue at) ≡ 1
height_continue at = ap stmt_height (sym (rolls-Continue at)) ∙ fold-roll-Stmt ℕ ℕ stmt_layer_height catch_layer_height (Stmt-F.Continue at)

pub height_throw : (e : Expr) → stmt_height (s.Throw e) ≡ expr_height e + 1
height_throw e = ap stmt_height (sym (rolls-Throw e)) ∙ fold-roll-Stmt ℕ ℕ stmt_layer_height catch_layer_height (Stmt-F.Throw e)

pub height_try : (body : Stmt) (clauses : List CatchTree) (last : Option Stmt)
    → stmt_height (s.Try body clauses last) ≡ max (stmt_height body) (max (highest (map catch_height clauses)) (part_height (option_map stmt_height last))) + 1
height_try body clauses None =
    ap stmt_height (sym (rolls-Try body clauses None)) ∙ fold-roll-Stmt ℕ ℕ stmt_layer_height catch_layer_height (Stmt-F.Try body clauses None)
height_try body clauses (Some last) =
    ap stmt_height (sym (rolls-Try body clauses (Some last))) ∙ fold-roll-Stmt ℕ ℕ stmt_layer_height catch_layer_height (Stmt-F.Try body clauses (Some last))

pub height_clause : (c : CatchTree) → catch_height c ≡ stmt_height (out-CatchTree c).body
height_clause = fold_out-CatchTree ℕ ℕ stmt_layer_height catch_layer_height

pub ruleset heights = (
  height_empty,
  height_block,
  height_local,
  height_assign,
  height_step,
  height_eval,
  height_super,
  height_if,
  height_while,
  height_do_while,
  height_for,
  height_return,
  height_break,
  height_continue,
  height_throw,
  height_try,
  height_clause,
)
