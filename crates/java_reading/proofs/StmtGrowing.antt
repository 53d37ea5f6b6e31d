-- The height of a statement is the least number with which it is written, and it is written with each greater one.
use Rattle.std.proofs.Math.Logic.{inl, inr}
use Rattle.std.proofs.Common.{◌≡◌, ℕ, zero, suc, ◌+◌, ◌≤◌, ◌<◌, max, List, [], ◌∷◌, Bool, true, false, Option, Some, None, map, arith, subst}
use Rattle.java_tokens.specs.declared.token.Operator.{Operator}
use Rattle.java_tokens.specs.declared.token.Operator.TheVariants as o
use Rattle.java_syntax.specs.declared.expression.Expr.{Expr}
use Rattle.java_syntax.specs.declared.operator.Fix.{Fix}
use Rattle.java_syntax.specs.declared.operator.Fix.TheVariants as fix
use Rattle.java_syntax.specs.declared.operator.StepOp.{StepOp}
use Rattle.java_syntax.specs.declared.statement.CatchTree.{CatchTree, out-CatchTree}
use Rattle.java_syntax.specs.declared.statement.Stmt.{Stmt, out-Stmt, roll-Stmt}
use Rattle.java_syntax.specs.declared.statement.Stmt.TheFolds.{fold-roll-Stmt, fold_out-CatchTree}
use Rattle.java_syntax.specs.declared.statement.Stmt.TheOpen.{Stmt-F}
use Rattle.java_syntax.specs.declared.statement.Stmt.TheViews.{roll-out-Stmt}
use Rattle.token_reading.specs.Lexeme.{Lexeme}
use Rattle.java_syntax.specs.Exprs.{Within}
use Rattle.java_syntax.specs.Stmts.{StmtLayer, Initial, Steps, Unended, local_type_height, UnendedWithin, MoreSimples, Simples, Declares, Start, Stmts, Condition, Ended, Otherwise, IsBlock, Catches, Finally, StmtNode, StmtWithin}
use Rattle.java_syntax.specs.Height.{expr_height, value_height, stmt_layer_height, catch_layer_height, stmt_height, catch_height}
use Rattle.java_reading.proofs.Growing.{at_most, args_low, args_fit, fitting}
use Rattle.token_reading.specs.Height.{highest, type_height}

-- ---- the height of a node, by those of its parts

abbrev inner_height : Option Stmt → ℕ
inner_height None = 0
inner_height (Some s) = stmt_height s

abbrev height_by : StmtLayer → ℕ
height_by Stmt-F.Empty = 1
height_by (Stmt-F.Block all) = highest (map stmt_height all) + 1
height_by (Stmt-F.Super at given) = highest (map expr_height given) + 1
height_by (Stmt-F.If c s other) = max (expr_height c) (max (stmt_height s) (inner_height other)) + 1
height_by (Stmt-F.While c s) = max (expr_height c) (stmt_height s) + 1
height_by (Stmt-F.DoWhile s c) = max (stmt_height s) (expr_height c) + 1
height_by (Stmt-F.For first c update s) =
    max (highest (map stmt_height first)) (max (value_height c) (max (highest (map stmt_height update)) (stmt_height s))) + 1
height_by (Stmt-F.Return at e) = value_height e + 1
height_by (Stmt-F.Break at) = 1
height_by (Stmt-F.Continue at) = 1
height_by (Stmt-F.Throw e) = expr_height e + 1
height_by (Stmt-F.Try body clauses last) = max (stmt_height body) (max (highest (map catch_height clauses)) (inner_height last)) + 1
height_by (Stmt-F.Local t) = max (type_height t.ty) (value_height t.value) + 1
height_by (Stmt-F.Assign a op e) = max (expr_height a) (expr_height e) + 1
height_by (Stmt-F.Step op side a) = expr_height a + 1
height_by (Stmt-F.Eval e) = expr_height e + 1

height_is : (f : StmtLayer) → stmt_height (roll-Stmt f) ≡ height_by f
height_is Stmt-F.Empty = fold-roll-Stmt ℕ ℕ stmt_layer_height catch_layer_height Stmt-F.Empty
height_is (Stmt-F.Block all) = fold-roll-Stmt ℕ ℕ stmt_layer_height catch_layer_height (Stmt-F.Block all)
height_is (Stmt-F.Super at given) = fold-roll-Stmt ℕ ℕ stmt_layer_height catch_layer_height (Stmt-F.Super at given)
height_is (Stmt-F.If c s None) = fold-roll-Stmt ℕ ℕ stmt_layer_height catch_layer_height (Stmt-F.If c s None)
height_is (Stmt-F.If c s (Some other)) = fold-roll-Stmt ℕ ℕ stmt_layer_height catch_layer_height (Stmt-F.If c s (Some other))
height_is (Stmt-F.While c s) = fold-roll-Stmt ℕ ℕ stmt_layer_height catch_layer_height (Stmt-F.While c s)
height_is (Stmt-F.DoWhile s c) = fold-roll-Stmt ℕ ℕ stmt_layer_height catch_layer_height (Stmt-F.DoWhile s c)
height_is (Stmt-F.For first c update s) = fold-roll-Stmt ℕ ℕ stmt_layer_height catch_layer_height (Stmt-F.For first c update s)
height_is (Stmt-F.Return at e) = fold-roll-Stmt ℕ ℕ stmt_layer_height catch_layer_height (Stmt-F.Return at e)
height_is (Stmt-F.Break at) = fold-roll-Stmt ℕ ℕ stmt_layer_height catch_layer_height (Stmt-F.Break at)
height_is (Stmt-F.Continue at) = fold-roll-Stmt ℕ ℕ stmt_layer_height catch_layer_height (Stmt-F.Continue at)
height_is (Stmt-F.Throw e) = fold-roll-Stmt ℕ ℕ stmt_layer_height catch_layer_height (Stmt-F.Throw e)
height_is (Stmt-F.Try body clauses None) = fold-roll-Stmt ℕ ℕ stmt_layer_height catch_layer_height (Stmt-F.Try body clauses None)
height_is (Stmt-F.Try body clauses (Some last)) = fold-roll-Stmt ℕ ℕ stmt_layer_height catch_layer_height (Stmt-F.Try body clauses (Some last))
height_is (Stmt-F.Local t) = fold-roll-Stmt ℕ ℕ stmt_layer_height catch_layer_height (Stmt-F.Local t)
height_is (Stmt-F.Assign a op e) = fold-roll-Stmt ℕ ℕ stmt_layer_height catch_layer_height (Stmt-F.Assign a op e)
height_is (Stmt-F.Step op side a) = fold-roll-Stmt ℕ ℕ stmt_layer_height catch_layer_height (Stmt-F.Step op side a)
height_is (Stmt-F.Eval e) = fold-roll-Stmt ℕ ℕ stmt_layer_height catch_layer_height (Stmt-F.Eval e)

as_layer : (s : Stmt) → stmt_height s ≡ height_by (out-Stmt s)
as_layer s = subst (λ (t : Stmt). stmt_height t ≡ height_by (out-Stmt s)) (roll-out-Stmt s) (height_is (out-Stmt s))

as_clause : (c : CatchTree) → catch_height c ≡ stmt_height (out-CatchTree c).body
as_clause = fold_out-CatchTree ℕ ℕ stmt_layer_height catch_layer_height

-- ---- no lower than its height

pub initial_low : (n : ℕ) (e : Option Expr) (xs rest : List Lexeme) → Initial (Within n) e xs rest → value_height e ≤ n
initial_low n None xs rest w = omega arith
initial_low n (Some e) xs rest w = at_most n e 1 w.0 rest w.2

steps_low : (n : ℕ) (op : StepOp) (a : Expr) (side : Fix) (xs rest : List Lexeme) → Steps (Within n) op a side xs rest → expr_height a ≤ n
steps_low n op a fix.Before xs rest w = at_most n a 14 w.0 rest w.2
steps_low n op a fix.Behind xs rest w = at_most n a 14 xs w.0 w.1

unended_low : (n : ℕ) (f : StmtLayer) (xs rest : List Lexeme) → local_type_height f ≤ n → Unended (Within n) f xs rest → height_by f ≤ n + 1
unended_low n (Stmt-F.Local t) xs rest fit w = omega (arith, initial_low n t.value w.2 rest w.4)
unended_low n (Stmt-F.Assign a op e) xs rest fit w = omega (arith, at_most n a 14 xs w.0 w.1, at_most n e 1 w.2 rest w.4)
unended_low n (Stmt-F.Step op side a) xs rest fit w = omega (arith, steps_low n op a side xs rest w)
unended_low n (Stmt-F.Eval e) xs rest fit w = omega (arith, at_most n e 1 xs rest w)
unended_low n _ xs rest fit w = absurd w

header_low : (n : ℕ) (s : Stmt) (xs rest : List Lexeme) → UnendedWithin n s xs rest → stmt_height s ≤ n
unfolding UnendedWithin
header_low zero s xs rest w = absurd w
header_low (suc n) s xs rest w = omega (arith, as_layer s, unended_low n (out-Stmt s) xs rest w.1 w.0)

more_simples_low : (n : ℕ) (close : Operator) (all : List Stmt) (xs rest : List Lexeme) → MoreSimples (UnendedWithin n) close all xs rest
    → highest (map stmt_height all) ≤ n
more_simples_low n close [] xs rest w = omega arith
more_simples_low n close (s ∷ more) xs rest w = omega (arith, header_low n s w.0 w.2 w.3.1, more_simples_low n close more w.2 rest w.4)

simples_low : (n : ℕ) (close : Operator) (all : List Stmt) (xs rest : List Lexeme) → Simples (UnendedWithin n) close all xs rest
    → highest (map stmt_height all) ≤ n
simples_low n close [] xs rest w = omega arith
simples_low n close (s ∷ more) xs rest w = omega (arith, header_low n s xs w.0 w.1.1, more_simples_low n close more w.0 rest w.2)

declares_low : (n : ℕ) (all : List Stmt) (xs rest : List Lexeme) → Declares (UnendedWithin n) all xs rest → highest (map stmt_height all) ≤ n
declares_low n (s ∷ []) xs rest w = omega (arith, header_low n s xs w.1 w.2)
declares_low n _ xs rest w = absurd w

start_low : (n : ℕ) (all : List Stmt) (xs rest : List Lexeme) → Start (UnendedWithin n) all xs rest → highest (map stmt_height all) ≤ n
start_low n all xs rest (inl w) = declares_low n all xs rest w
start_low n all xs rest (inr w) = simples_low n o.Semicolon all xs rest w

module _ (n : ℕ) (low : (in_block : Bool) (t : Stmt) (xs rest : List Lexeme) → StmtWithin n in_block t xs rest → stmt_height t ≤ n) where
  stmts_low : (all : List Stmt) (xs rest : List Lexeme) → Stmts (Within n) (UnendedWithin n) (StmtWithin n) all xs rest
      → highest (map stmt_height all) ≤ n
  stmts_low [] xs rest w = omega arith
  stmts_low (s ∷ more) xs rest w = omega (arith, low true s xs w.0 w.1, stmts_low more w.0 rest w.2)

  ended_low : (e : Option Expr) (xs rest : List Lexeme) → Ended (Within n) (UnendedWithin n) (StmtWithin n) e xs rest → value_height e ≤ n
  ended_low None xs rest w = omega arith
  ended_low (Some e) xs rest w = at_most n e 1 xs w.0 w.1

  otherwise_low : (other : Option Stmt) (xs rest : List Lexeme) → Otherwise (Within n) (UnendedWithin n) (StmtWithin n) other xs rest
      → inner_height other ≤ n
  otherwise_low None xs rest w = omega arith
  otherwise_low (Some s) xs rest w = low false s w.0 rest w.2

  catches_low : (all : List CatchTree) (xs rest : List Lexeme) → Catches (Within n) (UnendedWithin n) (StmtWithin n) all xs rest
      → highest (map catch_height all) ≤ n
  catches_low [] xs rest w = omega arith
  catches_low (c ∷ more) xs rest w =
      omega (arith, as_clause c, low false (out-CatchTree c).body w.1.8 w.0 w.1.10.1, catches_low more w.0 rest w.2)

  finally_low : (last : Option Stmt) (xs rest : List Lexeme) → Finally (Within n) (UnendedWithin n) (StmtWithin n) last xs rest
      → inner_height last ≤ n
  finally_low None xs rest w = omega arith
  finally_low (Some s) xs rest w = low false s w.0 rest w.2.1

  node_low : (f : StmtLayer) (xs rest : List Lexeme) → local_type_height f ≤ n → StmtNode (Within n) (UnendedWithin n) (StmtWithin n) f xs rest
      → height_by f ≤ n + 1
  node_low Stmt-F.Empty xs rest fit w = omega arith
  node_low (Stmt-F.Block all) xs rest fit w = omega (arith, stmts_low all w.0 rest w.2)
  node_low (Stmt-F.Super at given) xs rest fit w = omega (arith, args_low n (Within n) (at_most n) given w.2 w.4 w.5)
  node_low (Stmt-F.If c s other) xs rest fit w =
      omega (arith, at_most n c 1 w.3.0 w.3.2 w.3.3, low false s w.2 w.4 w.5, otherwise_low other w.4 rest w.6)
  node_low (Stmt-F.While c s) xs rest fit w = omega (arith, at_most n c 1 w.3.0 w.3.2 w.3.3, low false s w.2 rest w.4)
  node_low (Stmt-F.DoWhile s c) xs rest fit w = omega (arith, low false s w.0 w.2 w.3, at_most n c 1 w.7.0 w.7.2 w.7.3)
  node_low (Stmt-F.For first c update s) xs rest fit w =
      omega (arith, start_low n first w.2 w.4 w.5, ended_low c w.4 w.6 w.7, simples_low n o.RightParen update w.6 w.8 w.9, low false s w.8 rest w.10)
  node_low (Stmt-F.Return at e) xs rest fit w = omega (arith, ended_low e w.0 rest w.2)
  node_low (Stmt-F.Break at) xs rest fit w = omega arith
  node_low (Stmt-F.Continue at) xs rest fit w = omega arith
  node_low (Stmt-F.Throw e) xs rest fit w = omega (arith, at_most n e 1 w.0 w.2 w.3)
  node_low (Stmt-F.Try body clauses last) xs rest fit w =
      omega (arith, low false body w.0 w.2 w.3.1, catches_low clauses w.2 w.4 w.5, finally_low last w.4 rest w.6)
  node_low f xs rest fit w = unended_low n f xs w.0 fit w.1

pub stmt_at_most : (n : ℕ) (in_block : Bool) (t : Stmt) (xs rest : List Lexeme) → StmtWithin n in_block t xs rest → stmt_height t ≤ n
unfolding StmtWithin
stmt_at_most zero in_block t xs rest w = absurd w
stmt_at_most (suc n) in_block t xs rest w = omega (arith, as_layer t, node_low n (stmt_at_most n) (out-Stmt t) xs rest w.2 w.1)

pub body_at_most : (n : ℕ) (all : List Stmt) (xs rest : List Lexeme) → Stmts (Within n) (UnendedWithin n) (StmtWithin n) all xs rest
    → highest (map stmt_height all) ≤ n
body_at_most n = stmts_low n (stmt_at_most n)

-- ---- with each number that is no less than its height

module _ (n m : ℕ) where
  pub initial_fit : (e : Option Expr) (xs rest : List Lexeme) → value_height e ≤ m → Initial (Within n) e xs rest → Initial (Within m) e xs rest
  initial_fit None xs rest low w = w
  initial_fit (Some e) xs rest low w = (w.0, w.1, fitting n m e 1 w.0 rest low w.2)

  steps_fit : (op : StepOp) (a : Expr) (side : Fix) (xs rest : List Lexeme) → expr_height a ≤ m → Steps (Within n) op a side xs rest
      → Steps (Within m) op a side xs rest
  steps_fit op a fix.Before xs rest low w = (w.0, w.1, fitting n m a 14 w.0 rest low w.2)
  steps_fit op a fix.Behind xs rest low w = (w.0, fitting n m a 14 xs w.0 low w.1, w.2)

  unended_fit : (f : StmtLayer) (xs rest : List Lexeme) → height_by f ≤ m + 1 → Unended (Within n) f xs rest → Unended (Within m) f xs rest
  unended_fit (Stmt-F.Local t) xs rest low w = (w.0, w.1, w.2, w.3, initial_fit t.value w.2 rest (omega arith) w.4)
  unended_fit (Stmt-F.Assign a op e) xs rest low w =
      (w.0, fitting n m a 14 xs w.0 (omega arith) w.1, w.2, w.3, fitting n m e 1 w.2 rest (omega arith) w.4)
  unended_fit (Stmt-F.Step op side a) xs rest low w = steps_fit op a side xs rest (omega arith) w
  unended_fit (Stmt-F.Eval e) xs rest low w = fitting n m e 1 xs rest (omega arith) w
  unended_fit _ xs rest low w = absurd w

node_height : (f : StmtLayer) → local_type_height f < height_by f
node_height Stmt-F.Empty = omega arith
node_height _ = omega arith

header_fit : (n m : ℕ) (s : Stmt) (xs rest : List Lexeme) → stmt_height s ≤ m → UnendedWithin n s xs rest → UnendedWithin m s xs rest
unfolding UnendedWithin
header_fit zero m s xs rest low w = absurd w
header_fit (suc n) zero s xs rest low w = absurd (omega (arith, as_layer s, node_height (out-Stmt s)))
header_fit (suc n) (suc m) s xs rest low w =
    (unended_fit n m (out-Stmt s) xs rest (omega (arith, as_layer s)) w.0, omega (arith, as_layer s, node_height (out-Stmt s)))

module _ (n m : ℕ) where
  more_simples_fit : (close : Operator) (all : List Stmt) (xs rest : List Lexeme) → highest (map stmt_height all) ≤ m
      → MoreSimples (UnendedWithin n) close all xs rest → MoreSimples (UnendedWithin m) close all xs rest
  more_simples_fit close [] xs rest low w = w
  more_simples_fit close (s ∷ more) xs rest low w =
      (w.0, w.1, w.2, (w.3.0, header_fit n m s w.0 w.2 (omega arith) w.3.1), more_simples_fit close more w.2 rest (omega arith) w.4)

  simples_fit : (close : Operator) (all : List Stmt) (xs rest : List Lexeme) → highest (map stmt_height all) ≤ m
      → Simples (UnendedWithin n) close all xs rest → Simples (UnendedWithin m) close all xs rest
  simples_fit close [] xs rest low w = w
  simples_fit close (s ∷ more) xs rest low w =
      (w.0, (w.1.0, header_fit n m s xs w.0 (omega arith) w.1.1), more_simples_fit close more w.0 rest (omega arith) w.2)

  declares_fit : (all : List Stmt) (xs rest : List Lexeme) → highest (map stmt_height all) ≤ m → Declares (UnendedWithin n) all xs rest
      → Declares (UnendedWithin m) all xs rest
  declares_fit (s ∷ []) xs rest low w = (w.0, w.1, header_fit n m s xs w.1 (omega arith) w.2, w.3)
  declares_fit _ xs rest low w = absurd w

  start_fit : (all : List Stmt) (xs rest : List Lexeme) → highest (map stmt_height all) ≤ m → Start (UnendedWithin n) all xs rest
      → Start (UnendedWithin m) all xs rest
  start_fit all xs rest low (inl w) = inl (declares_fit all xs rest low w)
  start_fit all xs rest low (inr w) = inr (simples_fit o.Semicolon all xs rest low w)

  module _ (fits : (in_block : Bool) (t : Stmt) (xs rest : List Lexeme) → stmt_height t ≤ m → StmtWithin n in_block t xs rest → StmtWithin m in_block t xs rest) where
    stmts_fit : (all : List Stmt) (xs rest : List Lexeme) → highest (map stmt_height all) ≤ m
        → Stmts (Within n) (UnendedWithin n) (StmtWithin n) all xs rest → Stmts (Within m) (UnendedWithin m) (StmtWithin m) all xs rest
    stmts_fit [] xs rest low w = w
    stmts_fit (s ∷ more) xs rest low w = (w.0, fits true s xs w.0 (omega arith) w.1, stmts_fit more w.0 rest (omega arith) w.2)

    condition_fit : (c : Expr) (xs rest : List Lexeme) → expr_height c ≤ m
        → Condition (Within n) (UnendedWithin n) (StmtWithin n) c xs rest → Condition (Within m) (UnendedWithin m) (StmtWithin m) c xs rest
    condition_fit c xs rest low w = (w.0, w.1, w.2, fitting n m c 1 w.0 w.2 low w.3, w.4)

    ended_fit : (e : Option Expr) (xs rest : List Lexeme) → value_height e ≤ m
        → Ended (Within n) (UnendedWithin n) (StmtWithin n) e xs rest → Ended (Within m) (UnendedWithin m) (StmtWithin m) e xs rest
    ended_fit None xs rest low w = w
    ended_fit (Some e) xs rest low w = (w.0, fitting n m e 1 xs w.0 low w.1, w.2)

    otherwise_fit : (other : Option Stmt) (xs rest : List Lexeme) → inner_height other ≤ m
        → Otherwise (Within n) (UnendedWithin n) (StmtWithin n) other xs rest → Otherwise (Within m) (UnendedWithin m) (StmtWithin m) other xs rest
    otherwise_fit None xs rest low w = w
    otherwise_fit (Some s) xs rest low w = (w.0, w.1, fits false s w.0 rest low w.2)

    block_fit : (s : Stmt) (xs rest : List Lexeme) → stmt_height s ≤ m
        → IsBlock (Within n) (UnendedWithin n) (StmtWithin n) s xs rest → IsBlock (Within m) (UnendedWithin m) (StmtWithin m) s xs rest
    block_fit s xs rest low w = (w.0, fits false s xs rest low w.1)

    catches_fit : (all : List CatchTree) (xs rest : List Lexeme) → highest (map catch_height all) ≤ m
        → Catches (Within n) (UnendedWithin n) (StmtWithin n) all xs rest → Catches (Within m) (UnendedWithin m) (StmtWithin m) all xs rest
    catches_fit [] xs rest low w = w
    catches_fit (c ∷ more) xs rest low w = (
      w.0,
      (
        w.1.0,
        w.1.1,
        w.1.2,
        w.1.3,
        w.1.4,
        w.1.5,
        w.1.6,
        w.1.7,
        w.1.8,
        w.1.9,
        block_fit (out-CatchTree c).body w.1.8 w.0 (omega (arith, as_clause c)) w.1.10,
      ),
      catches_fit more w.0 rest (omega arith) w.2,
    )

    finally_fit : (last : Option Stmt) (xs rest : List Lexeme) → inner_height last ≤ m
        → Finally (Within n) (UnendedWithin n) (StmtWithin n) last xs rest → Finally (Within m) (UnendedWithin m) (StmtWithin m) last xs rest
    finally_fit None xs rest low w = w
    finally_fit (Some s) xs rest low w = (w.0, w.1, block_fit s w.0 rest low w.2)

    node_fit : (f : StmtLayer) (xs rest : List Lexeme) → height_by f ≤ m + 1
        → StmtNode (Within n) (UnendedWithin n) (StmtWithin n) f xs rest → StmtNode (Within m) (UnendedWithin m) (StmtWithin m) f xs rest
    node_fit Stmt-F.Empty xs rest low w = w
    node_fit (Stmt-F.Block all) xs rest low w = (w.0, w.1, stmts_fit all w.0 rest (omega arith) w.2)
    node_fit (Stmt-F.Super at given) xs rest low w =
        (w.0, w.1, w.2, w.3, w.4, args_fit m (Within n) (Within m) (fitting n m) given w.2 w.4 (omega arith) w.5, w.6)
    node_fit (Stmt-F.If c s other) xs rest low w = (
      w.0,
      w.1,
      w.2,
      condition_fit c w.0 w.2 (omega arith) w.3,
      w.4,
      fits false s w.2 w.4 (omega arith) w.5,
      otherwise_fit other w.4 rest (omega arith) w.6,
    )
    node_fit (Stmt-F.While c s) xs rest low w =
        (w.0, w.1, w.2, condition_fit c w.0 w.2 (omega arith) w.3, fits false s w.2 rest (omega arith) w.4)
    node_fit (Stmt-F.DoWhile s c) xs rest low w =
        (w.0, w.1, w.2, fits false s w.0 w.2 (omega arith) w.3, w.4, w.5, w.6, condition_fit c w.4 w.6 (omega arith) w.7, w.8)
    node_fit (Stmt-F.For first c update s) xs rest low w = (
      w.0,
      w.1,
      w.2,
      w.3,
      w.4,
      start_fit first w.2 w.4 (omega arith) w.5,
      w.6,
      ended_fit c w.4 w.6 (omega arith) w.7,
      w.8,
      simples_fit o.RightParen update w.6 w.8 (omega arith) w.9,
      fits false s w.8 rest (omega arith) w.10,
    )
    node_fit (Stmt-F.Return at e) xs rest low w = (w.0, w.1, ended_fit e w.0 rest (omega arith) w.2)
    node_fit (Stmt-F.Break at) xs rest low w = w
    node_fit (Stmt-F.Continue at) xs rest low w = w
    node_fit (Stmt-F.Throw e) xs rest low w = (w.0, w.1, w.2, fitting n m e 1 w.0 w.2 (omega arith) w.3, w.4)
    node_fit (Stmt-F.Try body clauses last) xs rest low w = (
      w.0,
      w.1,
      w.2,
      block_fit body w.0 w.2 (omega arith) w.3,
      w.4,
      catches_fit clauses w.2 w.4 (omega arith) w.5,
      finally_fit last w.4 rest (omega arith) w.6,
      w.7,
    )
    node_fit (Stmt-F.Local t) xs rest low w = (w.0, unended_fit n m (Stmt-F.Local t) xs w.0 low w.1, w.2)
    node_fit (Stmt-F.Assign a op e) xs rest low w = (w.0, unended_fit n m (Stmt-F.Assign a op e) xs w.0 low w.1, w.2)
    node_fit (Stmt-F.Step op side a) xs rest low w = (w.0, unended_fit n m (Stmt-F.Step op side a) xs w.0 low w.1, w.2)
    node_fit (Stmt-F.Eval e) xs rest low w = (w.0, unended_fit n m (Stmt-F.Eval e) xs w.0 low w.1, w.2)

pub stmt_fit : (n m : ℕ) (in_block : Bool) (t : Stmt) (xs rest : List Lexeme) → stmt_height t ≤ m → StmtWithin n in_block t xs rest
    → StmtWithin m in_block t xs rest
unfolding StmtWithin
stmt_fit zero m in_block t xs rest low w = absurd w
stmt_fit (suc n) zero in_block t xs rest low w = absurd (omega (arith, as_layer t, node_height (out-Stmt t)))
stmt_fit (suc n) (suc m) in_block t xs rest low w = (
  w.0,
  node_fit n m (stmt_fit n m) (out-Stmt t) xs rest (omega (arith, as_layer t)) w.1,
  omega (arith, as_layer t, node_height (out-Stmt t)),
)

pub body_fit : (n m : ℕ) (all : List Stmt) (xs rest : List Lexeme) → highest (map stmt_height all) ≤ m
    → Stmts (Within n) (UnendedWithin n) (StmtWithin n) all xs rest → Stmts (Within m) (UnendedWithin m) (StmtWithin m) all xs rest
body_fit n m = stmts_fit n m (stmt_fit n m)
