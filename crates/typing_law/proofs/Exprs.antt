-- Every expression that breaks no rule is well typed.
use Rattle.std.proofs.Common.{◌≡◌, List, [], ◌∷◌, map, subst, sym}
use Rattle.core_tree.specs.declared.program.Program.{Program}
use Rattle.core_tree.specs.Typing.{Scope as CoreScope}
use Rattle.java_syntax.specs.declared.expression.Expr.{Expr}
use Rattle.java_syntax.specs.declared.expression.Expr.TheOpen.{Expr-F}
use Rattle.java_syntax.specs.declared.expression.Expr.TheViews.{roll-Expr}
use Rattle.java_syntax.specs.declared.expression.Expr.TheFolds.{fold-roll-Expr, ind-Expr, map-Expr}
use Rattle.java_names.specs.declared.scope.Scope.{Scope}
use Rattle.java_exprs.specs.declared.environment.Environment.{Environment}
use Rattle.java_exprs.specs.Attr.{Attr}
use Rattle.java_exprs.specs.Checks.{attr, attr_at}
use Rattle.typing_law.specs.Agrees.{Agrees, AgreesOnScope}
use Rattle.typing_law.proofs.Parts.{Holds}
use Rattle.typing_law.proofs.Arguments.{AllHold}
use Rattle.typing_law.proofs.Operators.{unary_right, binary_right, conditional_right}
use Rattle.typing_law.proofs.NodeKinds as kinds
use Rattle.typing_law.proofs.Dots.{field_right, method_right}

module _ (env : Environment) (p : Program) (agrees : Agrees env p) (s : Scope) (cs : CoreScope) (inside : AgreesOnScope env p s cs) where
  abbrev IsDone : Expr → Type 0
  IsDone e = Holds p cs (attr env s e)

  abbrev Done : Type 0
  Done = (e : Expr) × IsDone e

  all_done : (ds : List Done) → AllHold p cs (map (attr env s) (map (λ d. d.0) ds))
  all_done [] = tt
  all_done (d ∷ ds) = (d.1, all_done ds)

  node : (y : Expr-F Done) → Holds p cs (attr_at env s (map-Expr Expr Attr (attr env s) (map-Expr Done Expr (λ d. d.0) y)))
  node (Expr-F.Number at n) = kinds.number_right env p agrees s cs inside at n
  node (Expr-F.Text at t) = kinds.text_right env p agrees s cs inside at t
  node (Expr-F.Bool at b) = kinds.bool_right env p agrees s cs inside at b
  node (Expr-F.Null at) = kinds.null_right env p agrees s cs inside at
  node (Expr-F.This at) = kinds.this_right env p agrees s cs inside at
  node (Expr-F.Name x) = kinds.name_right env p agrees s cs inside x
  node (Expr-F.Call m xs) = kinds.call_right env p agrees s cs inside m (map (attr env s) (map (λ d. d.0) xs)) (all_done xs)
  node (Expr-F.Paren at e) = kinds.paren_right env p agrees s cs inside at (attr env s e.0) e.1
  node (Expr-F.Super at m xs) = kinds.super_right env p agrees s cs inside at m (map (attr env s) (map (λ d. d.0) xs)) (all_done xs)
  node (Expr-F.New at c xs) = kinds.new_right env p agrees s cs inside at c (map (attr env s) (map (λ d. d.0) xs)) (all_done xs)
  node (Expr-F.NewArray at base e dimensions) = kinds.new_array_right env p agrees s cs inside at base (attr env s e.0) dimensions e.1
  node (Expr-F.Field o f) = field_right env p agrees s cs inside (attr env s o.0) f o.1
  node (Expr-F.Method o m xs) = method_right env p agrees s cs inside (attr env s o.0) m (map (attr env s) (map (λ d. d.0) xs)) o.1 (all_done xs)
  node (Expr-F.Element a i) = kinds.element_right env p agrees s cs inside (attr env s a.0) (attr env s i.0) a.1 i.1
  node (Expr-F.Unary at op e) = unary_right env p agrees s cs op at (attr env s e.0) e.1
  node (Expr-F.Cast at t e) = kinds.cast_right env p agrees s cs inside at t (attr env s e.0) e.1
  node (Expr-F.Binary op l r) = binary_right env p agrees s cs op (attr env s l.0) (attr env s r.0) l.1 r.1
  node (Expr-F.InstanceOf e t) = kinds.instance_of_right env p agrees s cs inside (attr env s e.0) t e.1
  node (Expr-F.Conditional c a b) = conditional_right env p agrees s cs (attr env s c.0) (attr env s a.0) (attr env s b.0) c.1 a.1 b.1

  rolled : (x : Expr-F Expr) → Holds p cs (attr_at env s (map-Expr Expr Attr (attr env s) x)) → IsDone (roll-Expr x)
  unfolding attr
  rolled x holds = subst (Holds p cs) (sym (fold-roll-Expr Attr (attr_at env s) x)) holds

  pub expr_right : (e : Expr) → IsDone e
  expr_right = ind-Expr IsDone step
    where
      step : (x : Expr-F Expr) (y : Expr-F Done) → map-Expr Done Expr (λ d. d.0) y ≡ x → IsDone (roll-Expr x)
      step x y is = subst (λ x. IsDone (roll-Expr x)) is (rolled (map-Expr Done Expr (λ d. d.0) y) (node y))
