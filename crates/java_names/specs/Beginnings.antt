-- How a constructor's body begins (JLS 8.8.7).
use Rattle.std.specs.Prelude.{ℕ, List, [], ◌∷◌}
use Rattle.java_syntax.specs.declared.expression.Expr.{Expr}
use Rattle.java_syntax.specs.declared.statement.CatchTree.{CatchTree}
use Rattle.java_syntax.specs.declared.statement.Stmt.{Stmt, out-Stmt}
use Rattle.java_syntax.specs.declared.statement.Stmt.TheOpen.{Stmt-F}

-- the place at which the superclass's constructor is called, the arguments, and the statements after the call
pub record Begun : Type 0 where
  pub at : ℕ
  pub given : List Expr
  pub rest : List Stmt

-- a body that doesn't begin with `super(..)` calls the constructor without parameters, at the constructor's name
abbrev pub implicit : ℕ → List Stmt → Begun
implicit at body = record { at = at; given = []; rest = body }

abbrev pub beginning_node : ℕ → List Stmt → List Stmt → Stmt-F Stmt CatchTree → Begun
beginning_node at body rest (Stmt-F.Super word given) = record { at = word; given = given; rest = rest }
beginning_node at body rest _ = implicit at body

abbrev pub beginning : ℕ → List Stmt → Begun
beginning at [] = implicit at []
beginning at (s ∷ rest) = beginning_node at (s ∷ rest) rest (out-Stmt s)
