-- Every tree takes a token.
use Rattle.std.proofs.Common.{ℕ, zero, suc, ◌+◌, ◌<◌, List, [], ◌∷◌, length, ap, arith}
use Rattle.java_syntax.specs.declared.expression.Expr.{Expr, out-Expr}
use Rattle.java_syntax.specs.declared.expression.Expr.TheOpen.{Expr-F}
use Rattle.token_reading.specs.Lexeme.{Lexeme}
use Rattle.java_syntax.specs.Exprs.{Layer, Args, MoreArgs, Node, Within}
use Rattle.token_reading.proofs.Lexemes.{then_length, base_length, brackets_length, type_length}

module _ (Part : Expr → ℕ → List Lexeme → List Lexeme → Type 0)
    (shorter : (e : Expr) (l : ℕ) (xs rest : List Lexeme) → Part e l xs rest → length rest < length xs) where
  pub more_length : (given : List Expr) (xs rest : List Lexeme) → MoreArgs Part given xs rest → length given + length rest < length xs
  more_length [] xs rest t = omega (arith, then_length _ xs rest t)
  more_length (a ∷ more) xs rest w =
      omega (arith, then_length _ xs w.0 w.1, shorter a 1 w.0 w.2 w.3, more_length more w.2 rest w.4)

  pub args_length : (given : List Expr) (xs rest : List Lexeme) → Args Part given xs rest → length given + length rest < length xs
  args_length [] xs rest t = omega (arith, then_length _ xs rest t)
  args_length (a ∷ more) xs rest w = omega (arith, shorter a 1 xs w.0 w.1, more_length more w.0 rest w.2)

  node_length : (f : Layer) (xs rest : List Lexeme) → Node Part f xs rest → length rest < length xs
  node_length (Expr-F.Number at n) xs rest w = omega (arith, ap length w)
  node_length (Expr-F.Text at x) xs rest w = omega (arith, ap length w)
  node_length (Expr-F.Bool at b) xs rest w = omega (arith, ap length w)
  node_length (Expr-F.Null at) xs rest w = omega (arith, ap length w)
  node_length (Expr-F.This at) xs rest w = omega (arith, ap length w)
  node_length (Expr-F.Name x) xs rest w = omega (arith, ap length w)
  node_length (Expr-F.Call x given) xs rest w =
      omega (arith, ap length w.1, then_length _ w.0 w.2 w.3, args_length given w.2 rest w.4)
  node_length (Expr-F.Paren at a) xs rest w = omega (arith, ap length w.1, shorter a 1 w.0 w.3 w.4, then_length _ w.3 rest w.5)
  node_length (Expr-F.Super at x given) xs rest w =
      omega (arith, ap length w.1, then_length _ w.0 w.2 w.3, ap length w.5, then_length _ w.4 w.6 w.7, args_length given w.6 rest w.8)
  node_length (Expr-F.New at x given) xs rest w =
      omega (arith, ap length w.1, ap length w.3, then_length _ w.2 w.4 w.5, args_length given w.4 rest w.6)
  node_length (Expr-F.NewArray at b size n) xs rest w =
      omega (
        arith,
        ap length w.1,
        base_length b w.0 w.2 w.3,
        then_length _ w.2 w.4 w.5,
        shorter size 1 w.4 w.6 w.7,
        then_length _ w.6 w.8 w.9,
        brackets_length n w.8 rest w.10,
      )
  node_length (Expr-F.Field a x) xs rest w = omega (arith, shorter a 14 xs w.0 w.1, then_length _ w.0 w.2 w.3, ap length w.4)
  node_length (Expr-F.Method a x given) xs rest w =
      omega (arith, shorter a 14 xs w.0 w.1, then_length _ w.0 w.2 w.3, ap length w.5, then_length _ w.4 w.6 w.7, args_length given w.6 rest w.8)
  node_length (Expr-F.Element a i) xs rest w =
      omega (arith, shorter a 14 xs w.0 w.1, then_length _ w.0 w.2 w.3, shorter i 1 w.2 w.4 w.5, then_length _ w.4 rest w.6)
  node_length (Expr-F.Unary at op a) xs rest w = omega (arith, ap length w.1, shorter a 12 w.0 rest w.2)
  node_length (Expr-F.Cast at t a) xs rest w =
      omega (arith, ap length w.1, type_length t w.0 w.2 w.3, then_length _ w.2 w.5 w.6, shorter a 13 w.5 rest w.7)
  node_length (Expr-F.Binary op a b) xs rest w =
      omega (arith, shorter a _ xs w.0 w.1, then_length _ w.0 w.2 w.3, shorter b _ w.2 rest w.4)
  node_length (Expr-F.InstanceOf a t) xs rest w =
      omega (arith, shorter a 8 xs w.0 w.1, then_length _ w.0 w.2 w.3, type_length t w.2 rest w.4)
  node_length (Expr-F.Conditional c a b) xs rest w =
      omega (arith, shorter c 2 xs w.0 w.1, then_length _ w.0 w.2 w.3, shorter a 1 w.2 w.4 w.5, then_length _ w.4 w.6 w.7, shorter b 1 w.6 rest w.8)

pub within_length : (n : ℕ) (e : Expr) (l : ℕ) (xs rest : List Lexeme) → Within n e l xs rest → length rest < length xs
unfolding Within
within_length zero e l xs rest w = absurd w
within_length (suc n) e l xs rest w = node_length (Within n) (within_length n) (out-Expr e) xs rest w.1
