-- What is known of each kind of statement, from what is known of its parts.
use Rattle.std.proofs.Common.{◌≡◌, ◌∙◌, ℕ, List, [], ◌∷◌, ◌++◌, map, Option, Some, None, sym, ap, append_assoc, append-nil}
use Rattle.std.specs.Prelude.{option_map}
use Rattle.core_tree.specs.declared.stmt.Stmt.{Stmt as Step}
use Rattle.core_tree.specs.declared.stmt.Catch.{Catch as Handler}
use Rattle.token_reading.specs.declared.fault.CheckError.{CheckError}
use Rattle.java_syntax.specs.declared.operator.AssignOp.{AssignOp}
use Rattle.java_syntax.specs.declared.operator.StepOp.{StepOp}
use Rattle.java_syntax.specs.declared.operator.Fix.{Fix}
use Rattle.java_syntax.specs.declared.expression.Expr.{Expr}
use Rattle.java_syntax.specs.declared.statement.LocalTree.{LocalTree}
use Rattle.java_syntax.specs.declared.statement.CatchTree.{CatchTree, out-CatchTree}
use Rattle.java_syntax.specs.declared.statement.Stmt.{Stmt}
use Rattle.java_syntax.specs.declared.statement.Stmt.TheVariants as tree
use Rattle.java_syntax.specs.declared.statement.Stmt.TheOpen.{Stmt-F}
use Rattle.java_syntax.specs.declared.statement.Stmt.TheFolds.{fold-Stmt, fold-roll-Stmt, fold_out-CatchTree}
use Rattle.java_names.specs.declared.scope.Scope.{Scope}
use Rattle.java_exprs.specs.declared.environment.Environment.{Environment}
use Rattle.java_names.specs.Refusals.{Refuses}
use Rattle.java_names.proofs.RefusalLemmas.{refuses_left}
use Rattle.java_statements.specs.Effects.{Effects, CatchEffects, Part, CatchPart, sequence, clauses}
use Rattle.java_statements.specs.Statements.{effect, catch_effect, effect_at, catch_at}

pub effect_empty : (env : Environment) (s : Scope) → effect env tree.Empty s ≡ effect_at env Stmt-F.Empty s
unfolding effect catch_effect
effect_empty env s = ap (λ known. known s) (ap (fold-Stmt Part CatchPart (effect_at env) (catch_at env)) (sym tree.rolls-Empty) ∙ fold-roll-Stmt Part CatchPart (effect_at env) (catch_at env) Stmt-F.Empty)

pub effect_block : (env : Environment) (all : List Stmt) (s : Scope) → effect env (tree.Block all) s ≡ effect_at env (Stmt-F.Block (map (effect env) all)) s
unfolding effect catch_effect
effect_block env all s = ap (λ known. known s) (ap (fold-Stmt Part CatchPart (effect_at env) (catch_at env)) (sym (tree.rolls-Block all)) ∙ fold-roll-Stmt Part CatchPart (effect_at env) (catch_at env) (Stmt-F.Block all))

pub effect_local : (env : Environment) (t : LocalTree) (s : Scope) → effect env (tree.Local t) s ≡ effect_at env (Stmt-F.Local t) s
unfolding effect catch_effect
effect_local env t s = ap (λ known. known s) (ap (fold-Stmt Part CatchPart (effect_at env) (catch_at env)) (sym (tree.rolls-Local t)) ∙ fold-roll-Stmt Part CatchPart (effect_at env) (catch_at env) (Stmt-F.Local t))

pub effect_assign : (env : Environment) (a : Expr) (op : AssignOp) (e : Expr) (s : Scope) → effect env (tree.Assign a op e) s ≡ effect_at env (Stmt-F.Assign a op e) s
unfolding effect catch_effect
effect_assign env a op e s = ap (λ known. known s) (ap (fold-Stmt Part CatchPart (effect_at env) (catch_at env)) (sym (tree.rolls-Assign a op e)) ∙ fold-roll-Stmt Part CatchPart (effect_at env) (catch_at env) (Stmt-F.Assign a op e))

pub effect_step : (env : Environment) (op : StepOp) (side : Fix) (a : Expr) (s : Scope) → effect env (tree.Step op side a) s ≡ effect_at env (Stmt-F.Step op side a) s
unfolding effect catch_effect
effect_step env op side a s = ap (λ known. known s) (ap (fold-Stmt Part CatchPart (effect_at env) (catch_at env)) (sym (tree.rolls-Step op side a)) ∙ fold-roll-Stmt Part CatchPart (effect_at env) (catch_at env) (Stmt-F.Step op side a))

pub effect_eval : (env : Environment) (e : Expr) (s : Scope) → effect env (tree.Eval e) s ≡ effect_at env (Stmt-F.Eval e) s
unfolding effect catch_effect
effect_eval env e s = ap (λ known. known s) (ap (fold-Stmt Part CatchPart (effect_at env) (catch_at env)) (sym (tree.rolls-Eval e)) ∙ fold-roll-Stmt Part CatchPart (effect_at env) (catch_at env) (Stmt-F.Eval e))

pub effect_super : (env : Environment) (at : ℕ) (given : List Expr) (s : Scope) → effect env (tree.Super at given) s ≡ effect_at env (Stmt-F.Super at given) s
unfolding effect catch_effect
effect_super env at given s = ap (λ known. known s) (ap (fold-Stmt Part CatchPart (effect_at env) (catch_at env)) (sym (tree.rolls-Super at given)) ∙ fold-roll-Stmt Part CatchPart (effect_at env) (catch_at env) (Stmt-F.Super at given))

pub effect_if : (env : Environment) (c : Expr) (body : Stmt) (other : Option Stmt) (s : Scope) → effect env (tree.If c body other) s ≡ effect_at env (Stmt-F.If c (effect env body) (option_map (effect env) other)) s
unfolding effect catch_effect
effect_if env c body None s = ap (λ known. known s) (ap (fold-Stmt Part CatchPart (effect_at env) (catch_at env)) (sym (tree.rolls-If c body None)) ∙ fold-roll-Stmt Part CatchPart (effect_at env) (catch_at env) (Stmt-F.If c body None))
effect_if env c body (Some other) s = ap (λ known. known s) (ap (fold-Stmt Part CatchPart (effect_at env) (catch_at env)) (sym (tree.rolls-If c body (Some other))) ∙ fold-roll-Stmt Part CatchPart (effect_at env) (catch_at env) (Stmt-F.If c body (Some other)))

pub effect_while : (env : Environment) (c : Expr) (body : Stmt) (s : Scope) → effect env (tree.While c body) s ≡ effect_at env (Stmt-F.While c (effect env body)) s
unfolding effect catch_effect
effect_while env c body s = ap (λ known. known s) (ap (fold-Stmt Part CatchPart (effect_at env) (catch_at env)) (sym (tree.rolls-While c body)) ∙ fold-roll-Stmt Part CatchPart (effect_at env) (catch_at env) (Stmt-F.While c body))

pub effect_do_while : (env : Environment) (body : Stmt) (c : Expr) (s : Scope) → effect env (tree.DoWhile body c) s ≡ effect_at env (Stmt-F.DoWhile (effect env body) c) s
unfolding effect catch_effect
effect_do_while env body c s = ap (λ known. known s) (ap (fold-Stmt Part CatchPart (effect_at env) (catch_at env)) (sym (tree.rolls-DoWhile body c)) ∙ fold-roll-Stmt Part CatchPart (effect_at env) (catch_at env) (Stmt-F.DoWhile body c))

pub effect_for : (env : Environment) (start : List Stmt) (c : Option Expr) (update : List Stmt) (body : Stmt) (s : Scope) → effect env (tree.For start c update body) s ≡ effect_at env (Stmt-F.For (map (effect env) start) c (map (effect env) update) (effect env body)) s
unfolding effect catch_effect
effect_for env start c update body s = ap (λ known. known s) (ap (fold-Stmt Part CatchPart (effect_at env) (catch_at env)) (sym (tree.rolls-For start c update body)) ∙ fold-roll-Stmt Part CatchPart (effect_at env) (catch_at env) (Stmt-F.For start c update body))

pub effect_return : (env : Environment) (at : ℕ) (e : Option Expr) (s : Scope) → effect env (tree.Return at e) s ≡ effect_at env (Stmt-F.Return at e) s
unfolding effect catch_effect
effect_return env at e s = ap (λ known. known s) (ap (fold-Stmt Part CatchPart (effect_at env) (catch_at env)) (sym (tree.rolls-Return at e)) ∙ fold-roll-Stmt Part CatchPart (effect_at env) (catch_at env) (Stmt-F.Return at e))

pub effect_break : (env : Environment) (at : ℕ) (s : Scope) → effect env (tree.Break at) s ≡ effect_at env (Stmt-F.Break at) s
unfolding effect catch_effect
effect_break env at s = ap (λ known. known s) (ap (fold-Stmt Part CatchPart (effect_at env) (catch_at env)) (sym (tree.rolls-Break at)) ∙ fold-roll-Stmt Part CatchPart (effect_at env) (catch_at env) (Stmt-F.Break at))

pub effect_continue : (env : Environment) (at : ℕ) (s : Scope) → effect env (tree.Continue at) s ≡ effect_at env (Stmt-F.Continue at) s
unfolding effect catch_effect
effect_continue env at s = ap (λ known. known s) (ap (fold-Stmt Part CatchPart (effect_at env) (catch_at env)) (sym (tree.rolls-Continue at)) ∙ fold-roll-Stmt Part CatchPart (effect_at env) (catch_at env) (Stmt-F.Continue at))

pub effect_throw : (env : Environment) (e : Expr) (s : Scope) → effect env (tree.Throw e) s ≡ effect_at env (Stmt-F.Throw e) s
unfolding effect catch_effect
effect_throw env e s = ap (λ known. known s) (ap (fold-Stmt Part CatchPart (effect_at env) (catch_at env)) (sym (tree.rolls-Throw e)) ∙ fold-roll-Stmt Part CatchPart (effect_at env) (catch_at env) (Stmt-F.Throw e))

pub effect_try : (env : Environment) (body : Stmt) (catches : List CatchTree) (last : Option Stmt) (s : Scope) → effect env (tree.Try body catches last) s ≡ effect_at env (Stmt-F.Try (effect env body) (map (catch_effect env) catches) (option_map (effect env) last)) s
unfolding effect catch_effect
effect_try env body catches None s = ap (λ known. known s) (ap (fold-Stmt Part CatchPart (effect_at env) (catch_at env)) (sym (tree.rolls-Try body catches None)) ∙ fold-roll-Stmt Part CatchPart (effect_at env) (catch_at env) (Stmt-F.Try body catches None))
effect_try env body catches (Some last) s = ap (λ known. known s) (ap (fold-Stmt Part CatchPart (effect_at env) (catch_at env)) (sym (tree.rolls-Try body catches (Some last))) ∙ fold-roll-Stmt Part CatchPart (effect_at env) (catch_at env) (Stmt-F.Try body catches (Some last)))

pub ruleset effects = (
  effect_empty,
  effect_block,
  effect_local,
  effect_assign,
  effect_step,
  effect_eval,
  effect_super,
  effect_if,
  effect_while,
  effect_do_while,
  effect_for,
  effect_return,
  effect_break,
  effect_continue,
  effect_throw,
  effect_try,
)

-- ---- statements in a row

-- what is known of a list, where the statements so far break no rule
abbrev pub behind : List Step → Effects → Effects
behind done rest = record { after = rest.after; steps = done ++ rest.steps; faults = rest.faults }

pub sequence_step : (k : Part) (ks : List Part) (s next : Scope) (done : List Step) (step : Step)
    → k s ≡ record { after = next; step = step; faults = [] } → behind done (sequence (k ∷ ks) s) ≡ behind (done ++ step ∷ []) (sequence ks next)
unfolding sequence
sequence_step k ks s next done step e = rw e (ap (λ all. record { after = (sequence ks next).after; steps = all; faults = (sequence ks next).faults }) (sym (append_assoc done (step ∷ []) (sequence ks next).steps)))

pub sequence_fault : (all : Effects) (k : Part) (ks : List Part) (s : Scope) (done : List Step) (e : CheckError)
    → all ≡ behind done (sequence (k ∷ ks) s) → Refuses (k s).faults e → Refuses all.faults e
unfolding sequence
sequence_fault all k ks s done e is h = rw is (refuses_left (k s).faults _ e h)

-- ---- catch clauses

pub effect_catch : (env : Environment) (c : CatchTree) (s : Scope)
    → catch_effect env c s ≡ catch_at env (record { class = (out-CatchTree c).class; name = (out-CatchTree c).name; body = effect env (out-CatchTree c).body }) s
unfolding effect catch_effect
effect_catch env c s = ap (λ known. known s) (fold_out-CatchTree Part CatchPart (effect_at env) (catch_at env) c)

-- what is known of a list of clauses, where those so far break no rule
abbrev pub clauses_behind : List Handler → CatchEffects → CatchEffects
clauses_behind done rest = record { after = rest.after; handlers = done ++ rest.handlers; faults = rest.faults }

pub clauses_step : (k : CatchPart) (ks : List CatchPart) (s next : Scope) (done : List Handler) (handler : Handler)
    → k s ≡ record { after = next; handler = handler; faults = [] }
    → clauses_behind done (clauses (k ∷ ks) s) ≡ clauses_behind (done ++ handler ∷ []) (clauses ks next)
unfolding clauses
clauses_step k ks s next done handler e =
    rw e (ap (λ all. record { after = (clauses ks next).after; handlers = all; faults = (clauses ks next).faults }) (sym (append_assoc done (handler ∷ []) (clauses ks next).handlers)))

pub clauses_fault : (all : CatchEffects) (k : CatchPart) (ks : List CatchPart) (s : Scope) (done : List Handler) (e : CheckError)
    → all ≡ clauses_behind done (clauses (k ∷ ks) s) → Refuses (k s).faults e → Refuses all.faults e
unfolding clauses
clauses_fault all k ks s done e is h = rw is (refuses_left (k s).faults _ e h)

-- after the last statement
pub sequence_end : (done : List Step) (s : Scope) → behind done (sequence [] s) ≡ record { after = s; steps = done; faults = [] }
unfolding sequence
sequence_end done s = ap (λ all. record { after = s; steps = all; faults = [] }) (append-nil done)

-- after the last clause
pub clauses_end : (done : List Handler) (s : Scope) → clauses_behind done (clauses [] s) ≡ record { after = s; handlers = done; faults = [] }
unfolding clauses
clauses_end done s = ap (λ all. record { after = s; handlers = all; faults = [] }) (append-nil done)
