-- What statements need to know of expressions.
use Rattle.std.proofs.Common.{◌≡◌, ℕ, ◌≤◌, ◌<◌, List, length, false}
use Rattle.java_syntax.specs.declared.expression.Expr.{Expr, out-Expr}
use Rattle.token_reading.specs.Lexeme.{Lexeme}
use Rattle.java_syntax.specs.Exprs.{level, Within}
use Rattle.java_syntax.specs.Height.{expr_height}
use Rattle.java_reading.specs.ReadExpr.{follows, reading}
use Rattle.java_reading.proofs.Begins.{Begins}
use Rattle.java_reading.proofs.Claims.{Done, Sound}
use Rattle.java_reading.specs.Lookahead.{declares, is_local, is_super_call}

pub record ExprFacts : Type 0 where
  -- A tree that is written before a token that binds to nothing is found, or it is higher than the budget. A tree of
  -- any level is found at level 1.
  pub found : (n b : ℕ) (e : Expr) (l : ℕ) (xs rest : List Lexeme) → Within n e l xs rest → follows rest ≡ 0 → Done n b 1 e xs rest
  -- What is read is written, and with a budget that is too small there are more tokens than the budget.
  pub sound : (b : ℕ) (xs : List Lexeme) → Sound b 1 xs (reading b 1 xs)
  -- A tree of a height is one of each greater height.
  pub grown : (n m : ℕ) → n ≤ m → (e : Expr) (l : ℕ) (xs rest : List Lexeme) → Within n e l xs rest → Within m e l xs rest
  -- A tree that is written stands as one of each level up to its own.
  pub within_level : (n : ℕ) (e : Expr) (l : ℕ) (xs rest : List Lexeme) → Within n e l xs rest → l ≤ level (out-Expr e)
  pub leveled : (n : ℕ) (e : Expr) (l m : ℕ) (xs rest : List Lexeme) → m ≤ level (out-Expr e) → Within n e l xs rest → Within n e m xs rest
  -- A tree takes a token, and has a height.
  pub shorter : (n : ℕ) (e : Expr) (l : ℕ) (xs rest : List Lexeme) → Within n e l xs rest → length rest < length xs
  pub some_height : (n : ℕ) (e : Expr) (l : ℕ) (xs rest : List Lexeme) → Within n e l xs rest → 0 < n
  -- What it begins with: no `super` and `(`, and no declaration where the token after it declares nothing.
  pub begins : (n : ℕ) (e : Expr) (l : ℕ) (xs rest : List Lexeme) → Within n e l xs rest → Begins l xs
  pub no_super_call : (n : ℕ) (e : Expr) (l : ℕ) (xs rest : List Lexeme) → Within n e l xs rest → is_super_call xs ≡ false
  pub no_local : (n : ℕ) (e : Expr) (l : ℕ) (xs rest : List Lexeme) → declares rest ≡ false → Within n e l xs rest → is_local xs ≡ false
  -- Its height is the least number with which it is written.
  pub at_most : (n : ℕ) (e : Expr) (l : ℕ) (xs rest : List Lexeme) → Within n e l xs rest → expr_height e ≤ n
  pub at_height : (n : ℕ) (e : Expr) (l : ℕ) (xs rest : List Lexeme) → Within n e l xs rest → Within (expr_height e) e l xs rest
