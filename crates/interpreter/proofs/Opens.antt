-- What a node that is entered does, and that a node with no step left is spent.
use Rattle.std.proofs.Common.{◌≡◌, ℕ, zero, suc, ◌≤◌, refl, arith}
use Rattle.core_tree.specs.declared.expr.Expr.{Expr, out-Expr}
use Rattle.core_tree.specs.declared.stmt.Stmt.{Stmt, out-Stmt}
use Rattle.core_tree.specs.declared.program.Program.{Program}
use Rattle.relation_bounds.specs.declared.journal.Entry.{Entry}
use Rattle.evaluation.specs.declared.outcome.Outcome.TheVariants.{Spent}
use Rattle.evaluation.specs.World.{gives}
use Rattle.evaluation.specs.Calls.{Loop}
use Rattle.evaluation.specs.Evaluate.{expr_node}
use Rattle.evaluation.specs.Execute.{stmt_node, turn, meaning}
use Rattle.interpreter.specs.Setting.{Point, world}
use Rattle.std.specs.Prelude.{List}

pub opens_expr : (p : Program) (d f : ℕ) (e : Expr) (m : Point) (J : List Entry) → suc f ≤ d
    → (k : ℕ) × (f ≤ k)
    × ((meaning p d).expr e (world m (suc f) J) ≡ expr_node p (meaning p k) (out-Expr e) (world m f J))
unfolding meaning
opens_expr p zero f e m J le = absurd (omega arith)
opens_expr p (suc k) f e m J le = (k, omega arith, refl)

pub opens_stmt : (p : Program) (d f : ℕ) (s : Stmt) (m : Point) (J : List Entry) → suc f ≤ d
    → (k : ℕ) × (f ≤ k)
    × ((meaning p d).stmt s (world m (suc f) J) ≡ stmt_node p (meaning p k) (out-Stmt s) (world m f J))
unfolding meaning
opens_stmt p zero f s m J le = absurd (omega arith)
opens_stmt p (suc k) f s m J le = (k, omega arith, refl)

pub opens_loop : (p : Program) (d f : ℕ) (l : Loop) (m : Point) (J : List Entry) → suc f ≤ d
    → (k : ℕ) × (f ≤ k) × ((meaning p d).loop l (world m f J) ≡ turn p (meaning p k) l (world m f J))
unfolding meaning
opens_loop p zero f l m J le = absurd (omega arith)
opens_loop p (suc k) f l m J le = (k, omega arith, refl)

pub no_step_expr : (p : Program) (d : ℕ) (e : Expr) (m : Point) (J : List Entry)
    → (meaning p d).expr e (world m 0 J) ≡ gives Spent (world m 0 J)
unfolding meaning
no_step_expr p zero e m J = refl
no_step_expr p (suc d) e m J = refl

pub no_step_stmt : (p : Program) (d : ℕ) (s : Stmt) (m : Point) (J : List Entry)
    → (meaning p d).stmt s (world m 0 J) ≡ gives Spent (world m 0 J)
unfolding meaning
no_step_stmt p zero s m J = refl
no_step_stmt p (suc d) s m J = refl
