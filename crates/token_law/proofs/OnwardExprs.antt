-- What is left after an expression is numbered on.
use Rattle.std.proofs.Common.{ℕ, zero, suc, List, [], ◌∷◌}
use Rattle.java_syntax.specs.declared.expression.Expr.{Expr, out-Expr}
use Rattle.java_syntax.specs.declared.expression.Expr.TheOpen.{Expr-F}
use Rattle.token_reading.specs.Lexeme.{Lexeme}
use Rattle.java_syntax.specs.Exprs.{Layer, Args, MoreArgs, Node, Within}
use Rattle.token_law.proofs.Onward.{Onward, ◌>>◌, token, then_onward, base_onward, brackets_onward, type_onward}

module _ (Part : Expr → ℕ → List Lexeme → List Lexeme → Type 0)
    (onward : (e : Expr) (l : ℕ) (xs rest : List Lexeme) → Part e l xs rest → Onward xs rest) where
  pub more_onward : (given : List Expr) (xs rest : List Lexeme) → MoreArgs Part given xs rest → Onward xs rest
  more_onward [] xs rest t = then_onward _ xs rest t
  more_onward (a ∷ more) xs rest w =
      then_onward _ xs w.0 w.1 >> onward a 1 w.0 w.2 w.3 >> more_onward more w.2 rest w.4

  pub args_onward : (given : List Expr) (xs rest : List Lexeme) → Args Part given xs rest → Onward xs rest
  args_onward [] xs rest t = then_onward _ xs rest t
  args_onward (a ∷ more) xs rest w = onward a 1 xs w.0 w.1 >> more_onward more w.0 rest w.2

  node_onward : (f : Layer) (xs rest : List Lexeme) → Node Part f xs rest → Onward xs rest
  node_onward (Expr-F.Number at n) xs rest w = token w
  node_onward (Expr-F.Text at x) xs rest w = token w
  node_onward (Expr-F.Bool at b) xs rest w = token w
  node_onward (Expr-F.Null at) xs rest w = token w
  node_onward (Expr-F.This at) xs rest w = token w
  node_onward (Expr-F.Name x) xs rest w = token w
  node_onward (Expr-F.Call x given) xs rest w =
      token w.1 >> then_onward _ w.0 w.2 w.3 >> args_onward given w.2 rest w.4
  node_onward (Expr-F.Paren at a) xs rest w = token w.1 >> onward a 1 w.0 w.3 w.4 >> then_onward _ w.3 rest w.5
  node_onward (Expr-F.Super at x given) xs rest w =
      token w.1 >> then_onward _ w.0 w.2 w.3 >> token w.5 >> then_onward _ w.4 w.6 w.7 >> args_onward given w.6 rest w.8
  node_onward (Expr-F.New at x given) xs rest w =
      token w.1 >> token w.3 >> then_onward _ w.2 w.4 w.5 >> args_onward given w.4 rest w.6
  node_onward (Expr-F.NewArray at b size n) xs rest w =
      token w.1 >> base_onward b w.0 w.2 w.3 >> then_onward _ w.2 w.4 w.5 >> onward size 1 w.4 w.6 w.7 >> then_onward _ w.6 w.8 w.9 >> brackets_onward n w.8 rest w.10
  node_onward (Expr-F.Field a x) xs rest w = onward a 14 xs w.0 w.1 >> then_onward _ w.0 w.2 w.3 >> token w.4
  node_onward (Expr-F.Method a x given) xs rest w =
      onward a 14 xs w.0 w.1 >> then_onward _ w.0 w.2 w.3 >> token w.5 >> then_onward _ w.4 w.6 w.7 >> args_onward given w.6 rest w.8
  node_onward (Expr-F.Element a i) xs rest w =
      onward a 14 xs w.0 w.1 >> then_onward _ w.0 w.2 w.3 >> onward i 1 w.2 w.4 w.5 >> then_onward _ w.4 rest w.6
  node_onward (Expr-F.Unary at op a) xs rest w = token w.1 >> onward a 12 w.0 rest w.2
  node_onward (Expr-F.Cast at t a) xs rest w =
      token w.1 >> type_onward t w.0 w.2 w.3 >> then_onward _ w.2 w.5 w.6 >> onward a 13 w.5 rest w.7
  node_onward (Expr-F.Binary op a b) xs rest w =
      onward a _ xs w.0 w.1 >> then_onward _ w.0 w.2 w.3 >> onward b _ w.2 rest w.4
  node_onward (Expr-F.InstanceOf a t) xs rest w =
      onward a 8 xs w.0 w.1 >> then_onward _ w.0 w.2 w.3 >> type_onward t w.2 rest w.4
  node_onward (Expr-F.Conditional c a b) xs rest w =
      onward c 2 xs w.0 w.1 >> then_onward _ w.0 w.2 w.3 >> onward a 1 w.2 w.4 w.5 >> then_onward _ w.4 w.6 w.7 >> onward b 1 w.6 rest w.8

pub expr_onward : (n : ℕ) (e : Expr) (l : ℕ) (xs rest : List Lexeme) → Within n e l xs rest → Onward xs rest
unfolding Within
expr_onward zero e l xs rest w = absurd w
expr_onward (suc n) e l xs rest w = node_onward (Within n) (expr_onward n) (out-Expr e) xs rest w.1
