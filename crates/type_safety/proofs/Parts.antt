-- How parts are put together: where each part ends as it is asked, so does the whole.
use Rattle.std.proofs.Common.{◌∙◌, ℕ, zero, suc, Bool, List, refl, subst, sym}
use Rattle.core_tree.specs.declared.ty.Ty.{Ty}
use Rattle.core_tree.specs.declared.program.Program.{Program}
use Rattle.core_tree.specs.Typing.{Scope}
use Rattle.heap_arena.specs.Heap.{Value}
use Rattle.evaluation.specs.declared.outcome.Outcome.{Outcome}
use Rattle.evaluation.specs.declared.outcome.Outcome.TheVariants as outcome
use Rattle.evaluation.specs.World.{World, KeptCall, Answer, Run, gives, value_then, normal_then, enter}
use Rattle.type_safety.specs.Fits.{FitsType, FitsWorld, FitsScope, FitsThis, FitEach, HasGrown}
use Rattle.type_safety.specs.Ends.{Wanted, Meets, Follows, EndsAs, EndsIn}
use Rattle.type_safety.proofs.Values.{grown_refl, grown_trans, this_grown, each_grown}

-- ---- worlds that follow

pub follows_refl : (p : Program) (w : World) → FitsWorld p w → Follows p w w
follows_refl p w fits = record { world = fits; grown = grown_refl w.now; this = refl; locals = refl }

pub follows_trans : (p : Program) (w u v : World) → Follows p w u → Follows p u v → Follows p w v
follows_trans p w u v first second = record { world = second.world; grown = grown_trans w.now u.now v.now first.grown second.grown; this = second.this ∙ first.this; locals = second.locals ∙ first.locals }

pub scope_on : (p : Program) (s : Scope) (w u : World) → FitsScope p s w → Follows p w u → FitsScope p s u
scope_on p s w u fits on = record {
  world = on.world;
  this = subst (λ this. FitsThis p u.now s.this this) (sym on.this) (this_grown p w.now u.now s.this w.this on.grown fits.this);
  locals = subst (λ locals. FitEach p u.now locals s.locals) (sym on.locals) (each_grown p w.now u.now w.locals s.locals on.grown fits.locals);
}

-- how an expression ends is how a statement may end that goes no further
pub in_scope : (p : Program) (s : Scope) (wanted : Wanted) (w : World) (a : Answer) → FitsScope p s w → EndsAs p wanted w a → EndsIn p s wanted w a
in_scope p s wanted w a fits ends = record { world = scope_on p s w a.world fits ends.world; grown = ends.world.grown; outcome = ends.outcome }

-- ---- outcomes as they are

pub gives_ends : (p : Program) (wanted : Wanted) (w : World) (o : Outcome) → FitsWorld p w → Meets p wanted w.now o → EndsAs p wanted w (gives o w)
gives_ends p wanted w o fits meets = record { world = follows_refl p w fits; outcome = meets }

pub gives_in : (p : Program) (s : Scope) (wanted : Wanted) (w : World) (o : Outcome) → FitsScope p s w → Meets p wanted w.now o → EndsIn p s wanted w (gives o w)
gives_in p s wanted w o fits meets = record { world = fits; grown = grown_refl w.now; outcome = meets }

-- ---- one part after another

-- goes on with a value
pub value_then_ends : (p : Program) (wanted : Wanted) (t : Ty) (go : Value → Run) (w : World) (a : Answer) → EndsAs p (Wanted.ValueOf t) w a →
    ((v : Value) (u : World) → Follows p w u → FitsType p u.now v t → EndsAs p wanted u (go v u)) → EndsAs p wanted w (value_then go a)
value_then_ends p wanted t go w a ends next = cases a.outcome a.world a.out a.kept ends.world ends.outcome
  where
    cases : (o : Outcome) (u : World) (out : List ℕ) (kept : List KeptCall) → Follows p w u → Meets p (Wanted.ValueOf t) u.now o → EndsAs p wanted w (value_then go (record { outcome = o; world = u; out = out; kept = kept }))
    cases (outcome.Value v) u out kept on meets = record { world = follows_trans p w u (go v u).world on (next v u on meets).world; outcome = (next v u on meets).outcome }
    cases (outcome.Throw o) u out kept on meets = record { world = on; outcome = meets }
    cases outcome.Spent u out kept on meets = record { world = on; outcome = meets }
    cases (outcome.Full what) u out kept on meets = record { world = on; outcome = meets }
    cases _ u out kept on meets = absurd meets

pub value_then_in : (p : Program) (s : Scope) (wanted : Wanted) (t : Ty) (go : Value → Run) (w : World) (a : Answer) → FitsScope p s w → EndsAs p (Wanted.ValueOf t) w a →
    ((v : Value) (u : World) → FitsScope p s u → Follows p w u → FitsType p u.now v t → EndsIn p s wanted u (go v u)) → EndsIn p s wanted w (value_then go a)
value_then_in p s wanted t go w a fits ends next = cases a.outcome a.world a.out a.kept ends.world ends.outcome
  where
    cases : (o : Outcome) (u : World) (out : List ℕ) (kept : List KeptCall) → Follows p w u → Meets p (Wanted.ValueOf t) u.now o → EndsIn p s wanted w (value_then go (record { outcome = o; world = u; out = out; kept = kept }))
    cases (outcome.Value v) u out kept on meets =
        let then = next v u (scope_on p s w u fits on) on meets in
        record { world = then.world; grown = grown_trans w.now u.now (go v u).world.now on.grown then.grown; outcome = then.outcome }
    cases (outcome.Throw o) u out kept on meets = record { world = scope_on p s w u fits on; grown = on.grown; outcome = meets }
    cases outcome.Spent u out kept on meets = record { world = scope_on p s w u fits on; grown = on.grown; outcome = meets }
    cases (outcome.Full what) u out kept on meets = record { world = scope_on p s w u fits on; grown = on.grown; outcome = meets }
    cases _ u out kept on meets = absurd meets

-- goes on after a normal end
pub normal_then_ends : (p : Program) (wanted : Wanted) (go : Run) (w : World) (a : Answer) → EndsAs p Wanted.NormalEnd w a →
    ((u : World) → Follows p w u → EndsAs p wanted u (go u)) → EndsAs p wanted w (normal_then go a)
normal_then_ends p wanted go w a ends next = cases a.outcome a.world a.out a.kept ends.world ends.outcome
  where
    cases : (o : Outcome) (u : World) (out : List ℕ) (kept : List KeptCall) → Follows p w u → Meets p Wanted.NormalEnd u.now o → EndsAs p wanted w (normal_then go (record { outcome = o; world = u; out = out; kept = kept }))
    cases outcome.Normal u out kept on meets = record { world = follows_trans p w u (go u).world on (next u on).world; outcome = (next u on).outcome }
    cases (outcome.Throw o) u out kept on meets = record { world = on; outcome = meets }
    cases outcome.Spent u out kept on meets = record { world = on; outcome = meets }
    cases (outcome.Full what) u out kept on meets = record { world = on; outcome = meets }
    cases _ u out kept on meets = absurd meets

pub normal_then_in : (p : Program) (s : Scope) (wanted : Wanted) (go : Run) (w : World) (a : Answer) → EndsIn p s wanted w a →
    ((u : World) → FitsScope p s u → HasGrown w.now u.now → EndsIn p s wanted u (go u)) → EndsIn p s wanted w (normal_then go a)
normal_then_in p s wanted go w a ends next = cases a.outcome a.world a.out a.kept ends.world ends.grown ends.outcome
  where
    cases : (o : Outcome) (u : World) (out : List ℕ) (kept : List KeptCall) → FitsScope p s u → HasGrown w.now u.now → Meets p wanted u.now o → EndsIn p s wanted w (normal_then go (record { outcome = o; world = u; out = out; kept = kept }))
    cases outcome.Normal u out kept fits grown meets = record { world = (next u fits grown).world; grown = grown_trans w.now u.now (go u).world.now grown (next u fits grown).grown; outcome = (next u fits grown).outcome }
    cases outcome.Stuck u out kept fits grown meets = absurd meets
    cases _ u out kept fits grown meets = record { world = fits; grown = grown; outcome = meets }

-- a part that asks for a normal end alone may stand as a statement
pub normal_is_statement : (p : Program) (s : Scope) (t : Ty) (inside : Bool) (w : World) (a : Answer) → EndsIn p s Wanted.NormalEnd w a → EndsIn p s (Wanted.StatementEnd t inside) w a
normal_is_statement p s t inside w a ends = record { world = ends.world; grown = ends.grown; outcome = cases a.outcome ends.outcome }
  where
    cases : (o : Outcome) → Meets p Wanted.NormalEnd a.world.now o → Meets p (Wanted.StatementEnd t inside) a.world.now o
    cases outcome.Normal meets = meets
    cases (outcome.Throw o) meets = meets
    cases outcome.Spent meets = meets
    cases (outcome.Full what) meets = meets
    cases _ meets = absurd meets

-- ---- the entry of a node

pub enter_ends : (p : Program) (wanted : Wanted) (go : Run) (w : World) → FitsWorld p w → ((f : ℕ) → EndsAs p wanted (record w { fuel = f }) (go (record w { fuel = f }))) → EndsAs p wanted w (enter go w)
enter_ends p wanted go w fits next = cases w.fuel
  where
    cases : (f : ℕ) → EndsAs p wanted w (elim f [ zero ↦ gives outcome.Spent w | suc f ↦ go (record w { fuel = f }) ])
    cases zero = gives_ends p wanted w outcome.Spent fits tt
    cases (suc f) = record { world = record { world = (next f).world.world; grown = (next f).world.grown; this = (next f).world.this; locals = (next f).world.locals }; outcome = (next f).outcome }

pub enter_in : (p : Program) (s : Scope) (wanted : Wanted) (go : Run) (w : World) → FitsScope p s w → ((f : ℕ) → EndsIn p s wanted (record w { fuel = f }) (go (record w { fuel = f }))) → EndsIn p s wanted w (enter go w)
enter_in p s wanted go w fits next = cases w.fuel
  where
    cases : (f : ℕ) → EndsIn p s wanted w (elim f [ zero ↦ gives outcome.Spent w | suc f ↦ go (record w { fuel = f }) ])
    cases zero = gives_in p s wanted w outcome.Spent fits tt
    cases (suc f) = record { world = (next f).world; grown = (next f).grown; outcome = (next f).outcome }

-- a world with other steps left fits as well
pub scope_fuel : (p : Program) (s : Scope) (w : World) (f : ℕ) → FitsScope p s w → FitsScope p s (record w { fuel = f })
scope_fuel p s w f fits = record { world = record { heap = fits.world.heap; live = fits.world.live }; this = fits.this; locals = fits.locals }
