-- What is left after a statement is numbered on.
use Rattle.std.proofs.Math.Logic.{inl, inr}
use Rattle.std.proofs.Common.{ℕ, zero, suc, List, [], ◌∷◌, Bool, true, false, Option, Some, None}
use Rattle.java_tokens.specs.declared.token.Operator.{Operator}
use Rattle.java_tokens.specs.declared.token.Operator.TheVariants as o
use Rattle.java_syntax.specs.declared.expression.Expr.{Expr}
use Rattle.java_syntax.specs.declared.operator.Fix.{Fix}
use Rattle.java_syntax.specs.declared.operator.Fix.TheVariants as fix
use Rattle.java_syntax.specs.declared.operator.StepOp.{StepOp}
use Rattle.java_syntax.specs.declared.statement.CatchTree.{CatchTree, out-CatchTree}
use Rattle.java_syntax.specs.declared.statement.Stmt.{Stmt, out-Stmt}
use Rattle.java_syntax.specs.declared.statement.Stmt.TheOpen.{Stmt-F}
use Rattle.token_reading.specs.Lexeme.{Lexeme}
use Rattle.java_syntax.specs.Exprs.{Within}
use Rattle.java_syntax.specs.Stmts.{StmtLayer, Initial, Steps, Unended, UnendedWithin, MoreSimples, Simples, Declares, Start, Stmts, Condition, Ended, Otherwise, Catch, Catches, Finally, StmtNode, StmtWithin}
use Rattle.token_law.proofs.Onward.{Onward, ◌>>◌, stay, token, then_onward, type_onward}
use Rattle.token_law.proofs.OnwardExprs.{args_onward, expr_onward}

module _ (Part : Expr → ℕ → List Lexeme → List Lexeme → Type 0)
    (onward : (e : Expr) (l : ℕ) (xs rest : List Lexeme) → Part e l xs rest → Onward xs rest) where
  pub initial_onward : (e : Option Expr) (xs rest : List Lexeme) → Initial Part e xs rest → Onward xs rest
  initial_onward None xs rest w = stay w
  initial_onward (Some e) xs rest w = then_onward _ xs w.0 w.1 >> onward e 1 w.0 rest w.2

  steps_onward : (op : StepOp) (a : Expr) (side : Fix) (xs rest : List Lexeme) → Steps Part op a side xs rest → Onward xs rest
  steps_onward op a fix.Before xs rest w = then_onward _ xs w.0 w.1 >> onward a 14 w.0 rest w.2
  steps_onward op a fix.Behind xs rest w = onward a 14 xs w.0 w.1 >> then_onward _ w.0 rest w.2

  pub unended_onward : (f : StmtLayer) (xs rest : List Lexeme) → Unended Part f xs rest → Onward xs rest
  unended_onward (Stmt-F.Local t) xs rest w =
      type_onward t.ty xs w.0 w.1 >> token w.3 >> initial_onward t.value w.2 rest w.4
  unended_onward (Stmt-F.Assign a op e) xs rest w =
      onward a 14 xs w.0 w.1 >> then_onward _ w.0 w.2 w.3 >> onward e 1 w.2 rest w.4
  unended_onward (Stmt-F.Step op side a) xs rest w = steps_onward op a side xs rest w
  unended_onward (Stmt-F.Eval e) xs rest w = onward e 1 xs rest w
  unended_onward _ xs rest w = absurd w

module _ (Header : Stmt → List Lexeme → List Lexeme → Type 0)
    (onward : (s : Stmt) (xs rest : List Lexeme) → Header s xs rest → Onward xs rest) where
  pub more_simples_onward : (close : Operator) (all : List Stmt) (xs rest : List Lexeme) → MoreSimples Header close all xs rest
      → Onward xs rest
  more_simples_onward close [] xs rest t = then_onward _ xs rest t
  more_simples_onward close (s ∷ more) xs rest w =
      then_onward _ xs w.0 w.1 >> onward s w.0 w.2 w.3.1 >> more_simples_onward close more w.2 rest w.4

pub header_onward : (n : ℕ) (s : Stmt) (xs rest : List Lexeme) → UnendedWithin n s xs rest → Onward xs rest
unfolding UnendedWithin
header_onward zero s xs rest w = absurd w
header_onward (suc n) s xs rest w = unended_onward (Within n) (expr_onward n) (out-Stmt s) xs rest w.0

module _ (n : ℕ) (onward : (in_block : Bool) (t : Stmt) (xs rest : List Lexeme) → StmtWithin n in_block t xs rest → Onward xs rest) where
  pub stmts_onward : (all : List Stmt) (xs rest : List Lexeme) → Stmts (Within n) (UnendedWithin n) (StmtWithin n) all xs rest
      → Onward xs rest
  stmts_onward [] xs rest t = then_onward _ xs rest t
  stmts_onward (s ∷ more) xs rest w = onward true s xs w.0 w.1 >> stmts_onward more w.0 rest w.2

  condition_onward : (c : Expr) (xs rest : List Lexeme) → Condition (Within n) (UnendedWithin n) (StmtWithin n) c xs rest → Onward xs rest
  condition_onward c xs rest w = then_onward _ xs w.0 w.1 >> expr_onward n c 1 w.0 w.2 w.3 >> then_onward _ w.2 rest w.4

  ended_onward : (e : Option Expr) (xs rest : List Lexeme) → Ended (Within n) (UnendedWithin n) (StmtWithin n) e xs rest → Onward xs rest
  ended_onward None xs rest t = then_onward _ xs rest t
  ended_onward (Some e) xs rest w = expr_onward n e 1 xs w.0 w.1 >> then_onward _ w.0 rest w.2

  otherwise_onward : (other : Option Stmt) (xs rest : List Lexeme) → Otherwise (Within n) (UnendedWithin n) (StmtWithin n) other xs rest
      → Onward xs rest
  otherwise_onward None xs rest w = stay w.0
  otherwise_onward (Some s) xs rest w = then_onward _ xs w.0 w.1 >> onward false s w.0 rest w.2

  pub simples_onward : (close : Operator) (all : List Stmt) (xs rest : List Lexeme) → Simples (UnendedWithin n) close all xs rest
      → Onward xs rest
  simples_onward close [] xs rest t = then_onward _ xs rest t
  simples_onward close (s ∷ more) xs rest w =
      header_onward n s xs w.0 w.1.1 >> more_simples_onward (UnendedWithin n) (header_onward n) close more w.0 rest w.2

  declares_onward : (all : List Stmt) (xs rest : List Lexeme) → Declares (UnendedWithin n) all xs rest → Onward xs rest
  declares_onward (s ∷ []) xs rest w = header_onward n s xs w.1 w.2 >> then_onward _ w.1 rest w.3
  declares_onward _ xs rest w = absurd w

  start_onward : (all : List Stmt) (xs rest : List Lexeme) → Start (UnendedWithin n) all xs rest → Onward xs rest
  start_onward all xs rest (inl w) = declares_onward all xs rest w
  start_onward all xs rest (inr w) = simples_onward o.Semicolon all xs rest w

  catch_onward : (c : CatchTree) (xs rest : List Lexeme) → Catch (Within n) (UnendedWithin n) (StmtWithin n) c xs rest → Onward xs rest
  catch_onward c xs rest w =
      then_onward _ xs w.0 w.1 >> then_onward _ w.0 w.2 w.3 >> token w.5 >> token w.7 >> then_onward _ w.6 w.8 w.9 >> onward false (out-CatchTree c).body w.8 rest w.10.1

  pub catches_onward : (all : List CatchTree) (xs rest : List Lexeme) → Catches (Within n) (UnendedWithin n) (StmtWithin n) all xs rest
      → Onward xs rest
  catches_onward [] xs rest w = stay w.0
  catches_onward (c ∷ more) xs rest w = catch_onward c xs w.0 w.1 >> catches_onward more w.0 rest w.2

  finally_onward : (last : Option Stmt) (xs rest : List Lexeme) → Finally (Within n) (UnendedWithin n) (StmtWithin n) last xs rest
      → Onward xs rest
  finally_onward None xs rest w = stay w.0
  finally_onward (Some s) xs rest w = then_onward _ xs w.0 w.1 >> onward false s w.0 rest w.2.1

  node_onward : (f : StmtLayer) (xs rest : List Lexeme) → StmtNode (Within n) (UnendedWithin n) (StmtWithin n) f xs rest → Onward xs rest
  node_onward Stmt-F.Empty xs rest w = then_onward _ xs rest w
  node_onward (Stmt-F.Block all) xs rest w = then_onward _ xs w.0 w.1 >> stmts_onward all w.0 rest w.2
  node_onward (Stmt-F.Super at given) xs rest w =
      token w.1 >> then_onward _ w.0 w.2 w.3 >> args_onward (Within n) (expr_onward n) given w.2 w.4 w.5 >> then_onward _ w.4 rest w.6
  node_onward (Stmt-F.If c s other) xs rest w =
      then_onward _ xs w.0 w.1 >> condition_onward c w.0 w.2 w.3 >> onward false s w.2 w.4 w.5 >> otherwise_onward other w.4 rest w.6
  node_onward (Stmt-F.While c s) xs rest w =
      then_onward _ xs w.0 w.1 >> condition_onward c w.0 w.2 w.3 >> onward false s w.2 rest w.4
  node_onward (Stmt-F.DoWhile s c) xs rest w =
      then_onward _ xs w.0 w.1 >> onward false s w.0 w.2 w.3 >> then_onward _ w.2 w.4 w.5 >> condition_onward c w.4 w.6 w.7 >> then_onward _ w.6 rest w.8
  node_onward (Stmt-F.For first c update s) xs rest w =
      then_onward _ xs w.0 w.1 >> then_onward _ w.0 w.2 w.3 >> start_onward first w.2 w.4 w.5 >> ended_onward c w.4 w.6 w.7 >> simples_onward o.RightParen update w.6 w.8 w.9 >> onward false s w.8 rest w.10
  node_onward (Stmt-F.Return at e) xs rest w = token w.1 >> ended_onward e w.0 rest w.2
  node_onward (Stmt-F.Break at) xs rest w = token w.1 >> then_onward _ w.0 rest w.2
  node_onward (Stmt-F.Continue at) xs rest w = token w.1 >> then_onward _ w.0 rest w.2
  node_onward (Stmt-F.Throw e) xs rest w = then_onward _ xs w.0 w.1 >> expr_onward n e 1 w.0 w.2 w.3 >> then_onward _ w.2 rest w.4
  node_onward (Stmt-F.Try body clauses last) xs rest w =
      then_onward _ xs w.0 w.1 >> onward false body w.0 w.2 w.3.1 >> catches_onward clauses w.2 w.4 w.5 >> finally_onward last w.4 rest w.6
  node_onward f xs rest w = unended_onward (Within n) (expr_onward n) f xs w.0 w.1 >> then_onward _ w.0 rest w.2

pub stmt_onward : (n : ℕ) (in_block : Bool) (t : Stmt) (xs rest : List Lexeme) → StmtWithin n in_block t xs rest → Onward xs rest
unfolding StmtWithin
stmt_onward zero in_block t xs rest w = absurd w
stmt_onward (suc n) in_block t xs rest w = node_onward n (stmt_onward n) (out-Stmt t) xs rest w.1
