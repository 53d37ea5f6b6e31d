-- Every statement that breaks no rule is well typed.
use Rattle.std.proofs.Common.{◌≡◌, List, [], ◌∷◌, map, Some, None, subst, sym}
use Rattle.core_tree.specs.declared.program.Program.{Program}
use Rattle.java_syntax.specs.declared.statement.CatchTree.{CatchTree, CatchTree-F}
use Rattle.java_syntax.specs.declared.statement.CatchTree.{roll-CatchTree, map-CatchTree}
use Rattle.java_syntax.specs.declared.statement.Stmt.{Stmt}
use Rattle.java_syntax.specs.declared.statement.Stmt.TheOpen.{Stmt-F}
use Rattle.java_syntax.specs.declared.statement.Stmt.TheViews.{roll-Stmt}
use Rattle.java_syntax.specs.declared.statement.Stmt.TheFolds.{ind-Stmt, map-Stmt, fold-roll-Stmt, fold-roll-CatchTree}
use Rattle.java_exprs.specs.declared.environment.Environment.{Environment}
use Rattle.java_statements.specs.Effects.{Part, CatchPart}
use Rattle.java_statements.specs.Statements.{effect, catch_effect, effect_at, catch_at}
use Rattle.typing_law.specs.Agrees.{Agrees}
use Rattle.typing_law.proofs.Statements.{PartHolds, PartsHold, CatchHolds, CatchesHold}
use Rattle.typing_law.proofs.BodyNodes as nodes
use Rattle.typing_law.proofs.BodyParts as parts

module _ (env : Environment) (p : Program) (agrees : Agrees env p) where
  abbrev IsDone : Stmt → Type 0
  IsDone x = PartHolds env p (effect env x)

  abbrev IsCaught : CatchTree → Type 0
  IsCaught x = CatchHolds env p (catch_effect env x)

  abbrev Done : Type 0
  Done = (x : Stmt) × IsDone x

  abbrev Caught : Type 0
  Caught = (x : CatchTree) × IsCaught x

  all_done : (ds : List Done) → PartsHold env p (map (effect env) (map (λ d. d.0) ds))
  all_done [] = tt
  all_done (d ∷ ds) = (d.1, all_done ds)

  all_caught : (ds : List Caught) → CatchesHold env p (map (catch_effect env) (map (λ d. d.0) ds))
  all_caught [] = tt
  all_caught (d ∷ ds) = (d.1, all_caught ds)

  abbrev part_of : Stmt-F Done Caught → Stmt-F Part CatchPart
  part_of y = map-Stmt Stmt CatchTree Part CatchPart (effect env) (catch_effect env) (map-Stmt Done Caught Stmt CatchTree (λ d. d.0) (λ d. d.0) y)

  node : (y : Stmt-F Done Caught) → PartHolds env p (effect_at env (part_of y))
  node Stmt-F.Empty = nodes.empty_right env p agrees
  node (Stmt-F.Block all) = parts.block_right env p agrees (map (effect env) (map (λ d. d.0) all)) (all_done all)
  node (Stmt-F.Local t) = parts.local_right env p agrees t
  node (Stmt-F.Assign a op e) = nodes.assign_right env p agrees a op e
  node (Stmt-F.Step op side a) = nodes.step_right env p agrees op side a
  node (Stmt-F.Eval e) = nodes.eval_right env p agrees e
  node (Stmt-F.Super at given) = nodes.super_right env p agrees at given
  node (Stmt-F.If c body None) = parts.if_right env p agrees c (effect env body.0) None body.1 tt
  node (Stmt-F.If c body (Some other)) = parts.if_right env p agrees c (effect env body.0) (Some (effect env other.0)) body.1 other.1
  node (Stmt-F.While c body) = parts.while_right env p agrees c (effect env body.0) body.1
  node (Stmt-F.DoWhile body c) = parts.do_while_right env p agrees (effect env body.0) c body.1
  node (Stmt-F.For start c update body) = parts.for_right env p agrees (map (effect env) (map (λ d. d.0) start)) c (map (effect env) (map (λ d. d.0) update)) (effect env body.0) (all_done start) (all_done update) body.1
  node (Stmt-F.Return at e) = nodes.return_right env p agrees at e
  node (Stmt-F.Break at) = nodes.break_right env p agrees at
  node (Stmt-F.Continue at) = nodes.continue_right env p agrees at
  node (Stmt-F.Throw e) = nodes.throw_right env p agrees e
  node (Stmt-F.Try body catches None) = parts.try_right env p agrees (effect env body.0) (map (catch_effect env) (map (λ d. d.0) catches)) None body.1 (all_caught catches) tt
  node (Stmt-F.Try body catches (Some last)) = parts.try_right env p agrees (effect env body.0) (map (catch_effect env) (map (λ d. d.0) catches)) (Some (effect env last.0)) body.1 (all_caught catches) last.1

  rolled : (x : Stmt-F Stmt CatchTree) → PartHolds env p (effect_at env (map-Stmt Stmt CatchTree Part CatchPart (effect env) (catch_effect env) x)) → IsDone (roll-Stmt x)
  unfolding effect catch_effect
  rolled x holds = subst (PartHolds env p) (sym (fold-roll-Stmt Part CatchPart (effect_at env) (catch_at env) x)) holds

  catch_rolled : (x : CatchTree-F Stmt CatchTree) → CatchHolds env p (catch_at env (map-CatchTree Stmt CatchTree Part CatchPart (effect env) (catch_effect env) x)) → IsCaught (roll-CatchTree x)
  unfolding effect catch_effect
  catch_rolled x holds = subst (CatchHolds env p) (sym (fold-roll-CatchTree Part CatchPart (effect_at env) (catch_at env) x)) holds

  pub stmt_right : (x : Stmt) → IsDone x
  stmt_right = ind-Stmt IsDone IsCaught step catch_step
    where
      step : (x : Stmt-F Stmt CatchTree) (y : Stmt-F Done Caught) → map-Stmt Done Caught Stmt CatchTree (λ d. d.0) (λ d. d.0) y ≡ x → IsDone (roll-Stmt x)
      step x y is = subst (λ x. IsDone (roll-Stmt x)) is (rolled (map-Stmt Done Caught Stmt CatchTree (λ d. d.0) (λ d. d.0) y) (node y))

      catch_step : (x : CatchTree-F Stmt CatchTree) (y : CatchTree-F Done Caught) → map-CatchTree Done Caught Stmt CatchTree (λ d. d.0) (λ d. d.0) y ≡ x → IsCaught (roll-CatchTree x)
      catch_step x y is = subst (λ x. IsCaught (roll-CatchTree x)) is (catch_rolled (map-CatchTree Done Caught Stmt CatchTree (λ d. d.0) (λ d. d.0) y)
          (parts.catch_right env p agrees (map-CatchTree Stmt CatchTree Part CatchPart (effect env) (catch_effect env) (map-CatchTree Done Caught Stmt CatchTree (λ d. d.0) (λ d. d.0) y)) y.body.1))

  -- several statements
  pub stmts_right : (xs : List Stmt) → PartsHold env p (map (effect env) xs)
  stmts_right [] = tt
  stmts_right (x ∷ xs) = (stmt_right x, stmts_right xs)
