-- How a constructor's body begins, by the form of its first statement.
use Rattle.std.proofs.Common.{◌≡◌, ◌∙◌, ℕ, List, ◌∷◌, refl, sym, ap}
use Rattle.java_syntax.specs.declared.expression.Expr.{Expr}
use Rattle.java_syntax.specs.declared.statement.CatchTree.{CatchTree}
use Rattle.java_syntax.specs.declared.statement.Stmt.{Stmt, out-Stmt}
use Rattle.java_syntax.specs.declared.statement.Stmt.TheVariants as tree
use Rattle.java_syntax.specs.declared.statement.Stmt.TheOpen.{Stmt-F}
use Rattle.java_syntax.specs.declared.statement.Stmt.TheViews.{roll-Stmt, roll-out-Stmt, out-roll-Stmt}
use Rattle.java_names.specs.Beginnings.{beginning, beginning_node, implicit}

-- with `super(..)`
pub begins_with : (at : ℕ) (s : Stmt) (rest : List Stmt) (word : ℕ) (given : List Expr) → s ≡ tree.Super word given
    → beginning at (s ∷ rest) ≡ record { at = word; given = given; rest = rest }
begins_with at s rest word given is = ap (beginning_node at (s ∷ rest) rest) layer
  where
    layer : out-Stmt s ≡ Stmt-F.Super word given
    layer = ap out-Stmt (is ∙ sym (tree.rolls-Super word given)) ∙ out-roll-Stmt (Stmt-F.Super word given)

-- with another statement
pub begins_without : (at : ℕ) (s : Stmt) (rest : List Stmt) → ((word : ℕ) (given : List Expr) → s ≡ tree.Super word given → ⊥)
    → beginning at (s ∷ rest) ≡ implicit at (s ∷ rest)
begins_without at s rest other = cases (out-Stmt s) refl
  where
    layer_is : (x : Stmt-F Stmt CatchTree) → out-Stmt s ≡ x → s ≡ roll-Stmt x
    layer_is x is = sym (roll-out-Stmt s) ∙ ap roll-Stmt is

    cases : (x : Stmt-F Stmt CatchTree) → out-Stmt s ≡ x → beginning_node at (s ∷ rest) rest x ≡ implicit at (s ∷ rest)
    cases (Stmt-F.Super word given) is = absurd (other word given (layer_is (Stmt-F.Super word given) is ∙ tree.rolls-Super word given))
    cases _ is = refl

pub ruleset beginnings = (begins_with, begins_without)
