-- The frames make of a part's answer what the whole run gives.
use Rattle.std.proofs.Common.{Bor, ◌≡◌, ℕ, suc, ◌+◌, ◌≤◌, Bool, true, false, List, [], ◌∷◌, ◌++◌, Vec, Global, refl, sym, ap, ◌∙◌, arith, append_assoc, append-nil}
use Rattle.core_tree.specs.declared.expr.Expr.{Expr, out-Expr}
use Rattle.core_tree.specs.declared.stmt.Stmt.{Stmt, out-Stmt}
use Rattle.core_tree.specs.declared.stmt.Catch.{Catch}
use Rattle.core_tree.specs.declared.program.Program.{Program}
use Rattle.relation_bounds.specs.declared.journal.Entry.{Entry}
use Rattle.heap_arena.specs.Heap.{Value}
use Rattle.evaluation.specs.declared.outcome.Outcome.{Outcome}
use Rattle.evaluation.specs.declared.outcome.Outcome.TheVariants as outcome
use Rattle.evaluation.specs.World.{World, KeptCall, Answer, Run, gives, after, value_then, normal_then}
use Rattle.evaluation.specs.Calls.{Parts, Loop, block, construct}
use Rattle.evaluation.specs.Evaluate.{expr_node}
use Rattle.evaluation.specs.Execute.{prints, keeping, finally, after_body, turn, catching, catch_object, stmt_node, meaning}
use Rattle.interpreter.specs.declared.frame.LoopFrame.{LoopFrame}
use Rattle.interpreter.specs.declared.frame.LoopFrame.TheVariants as loop
use Rattle.interpreter.specs.declared.frame.PlainFrame.{PlainFrame}
use Rattle.interpreter.specs.declared.frame.PlainFrame.TheVariants as plain
use Rattle.interpreter.specs.declared.frame.LoopParts.{LoopParts}
use Rattle.interpreter.specs.declared.frame.Frame.{Frame}
use Rattle.interpreter.specs.declared.frame.Frame.TheVariants as frame
use Rattle.interpreter.specs.declared.frame.Focus.{Focus}
use Rattle.interpreter.specs.declared.frame.Focus.TheVariants as focus
use Rattle.interpreter.specs.Frames.{loop_of, used, passed, repeated, followed, plainly, resumed, stacked}
use Rattle.interpreter.specs.Setting.{Point, world}
use Rattle.interpreter.specs.Moves.{is_other, AreOther, IsFresh, Moves}
use Rattle.interpreter.specs.Points.{wanted, Stands, room, depth_of, Gives, At, Runs}
use Rattle.interpreter.proofs.Opens.{opens_expr, opens_stmt, opens_loop}

abbrev pub answer : Outcome → World → List ℕ → List KeptCall → Answer
answer o w out kept = record { outcome = o; world = w; out = out; kept = kept }

pub after_after : (a b : List ℕ) (kept : List KeptCall) (x : Answer)
    → after a [] (after b kept x) ≡ after (a ++ b) kept x
after_after a b kept x = ap (λ out. answer x.outcome x.world out (kept ++ x.kept)) (sym (append_assoc a b x.out))

-- ---- what was printed before stays before

value_after : (go : Value → Run) (out : List ℕ) (o : Outcome) (w : World) (more : List ℕ) (kept : List KeptCall)
    → value_then go (answer o w (out ++ more) kept) ≡ after out [] (value_then go (answer o w more kept))
value_after go out (outcome.Value v) w more kept = sym (after_after out more kept (go v w))
value_after go out _ w more kept = refl

normal_after : (go : Run) (out : List ℕ) (o : Outcome) (w : World) (more : List ℕ) (kept : List KeptCall)
    → normal_then go (answer o w (out ++ more) kept) ≡ after out [] (normal_then go (answer o w more kept))
normal_after go out outcome.Normal w more kept = sym (after_after out more kept (go w))
normal_after go out _ w more kept = refl

keeping_after : (e : Outcome) (out : List ℕ) (o : Outcome) (w : World) (more : List ℕ) (kept : List KeptCall)
    → keeping e (answer o w (out ++ more) kept) ≡ after out [] (keeping e (answer o w more kept))
keeping_after e out outcome.Normal w more kept = refl
keeping_after e out _ w more kept = refl

finally_after : (go : Run) (out : List ℕ) (o : Outcome) (w : World) (more : List ℕ) (kept : List KeptCall)
    → finally go (answer o w (out ++ more) kept) ≡ after out [] (finally go (answer o w more kept))
finally_after go out outcome.Spent w more kept = refl
finally_after go out (outcome.Full what) w more kept = refl
finally_after go out outcome.Stuck w more kept = refl
finally_after go out (outcome.Value v) w more kept = sym (after_after out more kept (keeping (outcome.Value v) (go w)))
finally_after go out outcome.Normal w more kept = sym (after_after out more kept (keeping outcome.Normal (go w)))
finally_after go out (outcome.Return v) w more kept = sym (after_after out more kept (keeping (outcome.Return v) (go w)))
finally_after go out outcome.Break w more kept = sym (after_after out more kept (keeping outcome.Break (go w)))
finally_after go out outcome.Continue w more kept = sym (after_after out more kept (keeping outcome.Continue (go w)))
finally_after go out (outcome.Throw o) w more kept = sym (after_after out more kept (keeping (outcome.Throw o) (go w)))

module _ (p : Program) (part : Parts) where
  body_after : (l : Loop) (out : List ℕ) (o : Outcome) (w : World) (more : List ℕ) (kept : List KeptCall)
      → after_body p part l (answer o w (out ++ more) kept) ≡ after out [] (after_body p part l (answer o w more kept))
  body_after l out outcome.Normal w more kept = sym (after_after out more kept (normal_then (part.loop l) (block p part l.updates w)))
  body_after l out outcome.Continue w more kept = sym (after_after out more kept (normal_then (part.loop l) (block p part l.updates w)))
  body_after l out outcome.Break w more kept = sym (after_after out more kept (gives outcome.Normal w))
  body_after l out _ w more kept = refl

  catching_after : (ks : List Catch) (out : List ℕ) (o : Outcome) (w : World) (more : List ℕ) (kept : List KeptCall)
      → catching p part ks (answer o w (out ++ more) kept) ≡ after out [] (catching p part ks (answer o w more kept))
  catching_after ks out (outcome.Throw o) w more kept = sym (after_after out more kept (catch_object p part ks o w))
  catching_after ks out _ w more kept = refl

  plainly_after : (x : PlainFrame) (out : List ℕ) (a : Answer)
      → plainly p part x (after out [] a) ≡ after out [] (plainly p part x a)
  plainly_after (plain.Leave e this locals) out a = refl
  plainly_after (plain.Catching ks) out a = catching_after ks.now out a.outcome a.world a.out a.kept
  plainly_after (plain.Finally s) out a = finally_after (part.stmt s.now) out a.outcome a.world a.out a.kept
  plainly_after (plain.Finished o) out a = keeping_after o out a.outcome a.world a.out a.kept

  resumed_after : (x : Frame) (out : List ℕ) (a : Answer)
      → resumed p part x (after out [] a) ≡ after out [] (resumed p part x a)
  resumed_after (frame.Value x) out a = value_after (used p part x) out a.outcome a.world a.out a.kept
  resumed_after (frame.Call x) out a = value_after (passed p part x) out a.outcome a.world a.out a.kept
  resumed_after (frame.Loop (loop.Body l)) out a = body_after (loop_of l) out a.outcome a.world a.out a.kept
  resumed_after (frame.Loop (loop.Updates l)) out a = normal_after (part.loop (loop_of l)) out a.outcome a.world a.out a.kept
  resumed_after (frame.Normal x) out a = normal_after (followed p part x) out a.outcome a.world a.out a.kept
  resumed_after (frame.Plain x) out a = plainly_after x out a

-- ---- stacks of frames

pub stands_after : (p : Program) (g : ℕ) (xs : List Frame) (make : Answer → Answer) → Stands p g xs make
    → (out : List ℕ) (a : Answer) → make (after out [] a) ≡ after out [] (make a)
stands_after p g [] make st out a = st (after out [] a) ∙ ap (after out []) (sym (st a))
stands_after p g (x ∷ xs) make st out a =
    st.4 (after out [] a) ∙ ap st.2 (resumed_after p (meaning p st.0) x out a)
    ∙ stands_after p g xs st.2 st.3 out (resumed p (meaning p st.0) x a)
    ∙ ap (after out []) (sym (st.4 a))

pub stands_loosen : (p : Program) (g h : ℕ) (xs : List Frame) (make : Answer → Answer) → h ≤ g → Stands p g xs make
    → Stands p h xs make
stands_loosen p g h [] make le st = st
stands_loosen p g h (x ∷ xs) make le st = (st.0, (let l = st.1 in omega arith), st.2, stands_loosen p g h xs st.2 le st.3, st.4)

-- each of the frames has the depth k, which is what it wants
abbrev pub AreWanted : ℕ → ℕ → List Frame → Type 0
AreWanted g k [] = Unit {0}
AreWanted g k (x ∷ xs) = (g ≤ wanted x k) × AreWanted g k xs

stands_push : (p : Program) (k g : ℕ) (ys xs : List Frame) (make : Answer → Answer) → AreWanted g k ys
    → Stands p g xs make → Stands p g (ys ++ xs) (λ a. make (stacked p (meaning p k) ys a))
stands_push p k g [] xs make le st = st
stands_push p k g (y ∷ ys) xs make le st = (k, le.0, (λ a. make (stacked p (meaning p k) ys a)), stands_push p k g ys xs make le.1 st, λ a. refl)

wanted_low : (x : Frame) (k : ℕ) → k ≤ wanted x k
wanted_low (frame.Loop x) k = omega arith
wanted_low (frame.Value x) k = omega arith
wanted_low (frame.Call x) k = omega arith
wanted_low (frame.Normal x) k = omega arith
wanted_low (frame.Plain x) k = omega arith

wanted_other : (x : Frame) (k : ℕ) → is_other x ≡ true → suc k ≤ wanted x k
wanted_other (frame.Loop x) k other = cc
wanted_other (frame.Value x) k other = omega arith
wanted_other (frame.Call x) k other = omega arith
wanted_other (frame.Normal x) k other = omega arith
wanted_other (frame.Plain x) k other = omega arith

all_wanted : (g k : ℕ) (xs : List Frame) → g ≤ k → AreWanted g k xs
all_wanted g k [] le = tt
all_wanted g k (x ∷ xs) le = ((let low = wanted_low x k in omega arith), all_wanted g k xs le)

others_wanted : (g k : ℕ) (xs : List Frame) → g ≤ suc k → AreOther xs → AreWanted g k xs
others_wanted g k [] le others = tt
others_wanted g k (x ∷ xs) le others = ((let high = wanted_other x k others.0 in omega arith), others_wanted g k xs le others.1)

-- ---- the machine goes on

-- a focus after which a step is taken: a node
abbrev pub IsNode : Focus → Bool
IsNode (focus.Expr e) = true
IsNode (focus.Stmt s) = true
IsNode _ = false

-- the frames that were pushed have the depth that they want
pushed_wanted : (b : Bool) (y : Focus) (xs : List Frame) (f k : ℕ) → IsFresh b y xs → f ≤ k → AreWanted (room y f) k xs
pushed_wanted b (focus.Expr e) xs f k fresh le = all_wanted f k xs le
pushed_wanted b (focus.Stmt s) xs f k fresh le = all_wanted f k xs le
pushed_wanted b (focus.Loop l) xs f k fresh le = rw fresh.1 tt
pushed_wanted b (focus.Construct n o args levels) xs f k fresh le = others_wanted (suc f) k xs (omega arith) fresh
pushed_wanted b (focus.Print bytes) xs f k fresh le = others_wanted (suc f) k xs (omega arith) fresh
pushed_wanted b (focus.Answer o) xs f k fresh le = others_wanted (suc f) k xs (omega arith) fresh

-- the depth is enough for the focus
deep_enough : (b : Bool) (y : Focus) (xs : List Frame) (f k : ℕ) → IsFresh b y xs → f ≤ k → (b ≡ true → suc f ≤ k)
    → depth_of y f ≤ k
deep_enough b (focus.Expr e) xs f k fresh le strict = le
deep_enough b (focus.Stmt s) xs f k fresh le strict = le
deep_enough b (focus.Loop l) xs f k fresh le strict = strict fresh.0
deep_enough b (focus.Construct n o args levels) xs f k fresh le strict = le
deep_enough b (focus.Print bytes) xs f k fresh le strict = le
deep_enough b (focus.Answer o) xs f k fresh le strict = le

room_low : (y : Focus) (f : ℕ) → room y f ≤ suc f
room_low (focus.Expr e) f = omega arith
room_low (focus.Stmt s) f = omega arith
room_low (focus.Loop l) f = omega arith
room_low (focus.Construct n o args levels) f = omega arith
room_low (focus.Print bytes) f = omega arith
room_low (focus.Answer o) f = omega arith

pub goes_on : (b : Bool) (node : Parts → Run) (m n : Point) (printed : List ℕ) (y : Focus) (k f : ℕ) (J : List Entry)
    (make : Answer → Answer) (whole : Answer)
    → Moves b node m n y → Stands m.setting.program (suc f) m.frames make → f ≤ k → (b ≡ true → suc f ≤ k)
    → whole ≡ after printed [] (make (node (meaning m.setting.program k) (world m f J))) → Gives n printed y f J whole
goes_on b node m n printed y k f J make whole mv st le strict e =
    let p = m.setting.program in
    record {
      make = λ a. make (stacked p (meaning p k) mv.pushed a);
      depth = k;
      frames = rw (mv.setting, mv.frames) (stands_push p k (room y f) mv.pushed m.frames make (pushed_wanted b y mv.pushed f k mv.fresh le) (stands_loosen p (suc f) (room y f) m.frames make (room_low y f) st));
      deep = deep_enough b y mv.pushed f k mv.fresh le strict;
      same = e ∙ ap (λ a. after printed [] (make a)) (mv.same k f J) ∙ rw mv.setting refl;
    }

-- ---- points of a run

-- m with one more step taken
abbrev pub stepped : Point → Point
stepped m = record m { taken = m.taken + 1 }

pub no_strict : {f k : ℕ} → false ≡ true → suc f ≤ k
no_strict h = cc

pub at_expr : (m n : Point) (printed : List ℕ) (e : Bor Expr) (y : Focus)
    → Moves false (λ part. expr_node m.setting.program part (out-Expr e.now)) (stepped m) n y → (R : Runs)
    → At R m printed (focus.Expr e) → At R n printed y
at_expr m n printed e y mv R at = record {
  gives = λ f J.
      let p = m.setting.program in
      let G = at.gives (suc f) J in
      let o = opens_expr p G.depth f e.now m J G.deep in
      let steps : n.taken + f ≡ m.taken + suc f = omega (arith, mv.taken) in
      goes_on false _ (stepped m) n printed y o.0 f J G.make (R (n.taken + f) J) mv G.frames o.1 no_strict
      (ap (λ t. R t J) steps ∙ G.same ∙ ap (λ a. after printed [] (G.make a)) o.2);
}

pub at_stmt : (m n : Point) (printed : List ℕ) (s : Bor Stmt) (y : Focus)
    → Moves false (λ part. stmt_node m.setting.program part (out-Stmt s.now)) (stepped m) n y → (R : Runs)
    → At R m printed (focus.Stmt s) → At R n printed y
at_stmt m n printed s y mv R at = record {
  gives = λ f J.
      let p = m.setting.program in
      let G = at.gives (suc f) J in
      let o = opens_stmt p G.depth f s.now m J G.deep in
      let steps : n.taken + f ≡ m.taken + suc f = omega (arith, mv.taken) in
      goes_on false _ (stepped m) n printed y o.0 f J G.make (R (n.taken + f) J) mv G.frames o.1 no_strict
      (ap (λ t. R t J) steps ∙ G.same ∙ ap (λ a. after printed [] (G.make a)) o.2);
}

pub at_loop : (m n : Point) (printed : List ℕ) (l : LoopParts) (y : Focus)
    → Moves false (λ part. turn m.setting.program part (loop_of l)) m n y → (R : Runs) → At R m printed (focus.Loop l)
    → At R n printed y
at_loop m n printed l y mv R at = record {
  gives = λ f J.
      let p = m.setting.program in
      let G = at.gives f J in
      let o = opens_loop p G.depth f (loop_of l) m J G.deep in
      let steps : n.taken + f ≡ m.taken + f = omega (arith, mv.taken) in
      goes_on false _ m n printed y o.0 f J G.make (R (n.taken + f) J) mv G.frames o.1 no_strict
      (ap (λ t. R t J) steps ∙ G.same ∙ ap (λ a. after printed [] (G.make a)) o.2);
}

-- a constructor is run
pub at_construct : (m n : Point) (printed : List ℕ) (k o : ℕ) (args : List Value) (levels : ℕ) (y : Focus)
    → Moves false (λ part. construct m.setting.program part levels k o args) m n y → (R : Runs)
    → At R m printed (focus.Construct k o args levels) → At R n printed y
at_construct m n printed k o args levels y mv R at = record {
  gives = λ f J.
      let G = at.gives f J in
      let steps : n.taken + f ≡ m.taken + f = omega (arith, mv.taken) in
      goes_on false _ m n printed y G.depth f J G.make (R (n.taken + f) J) mv G.frames G.deep no_strict
      (ap (λ t. R t J) steps ∙ G.same);
}

-- a frame that isn't a loop's has been taken off m
pub at_answer : (m n : Point) (printed : List ℕ) (x : Frame) (o : Outcome) (y : Focus) → is_other x ≡ true
    → Moves false (λ part w. resumed m.setting.program part x (gives o w)) m n y → (R : Runs)
    → At R (record m { frames = x ∷ m.frames }) printed (focus.Answer o) → At R n printed y
at_answer m n printed x o y other mv R at = record {
  gives = λ f J.
      let G = at.gives f J in
      let st = G.frames in
      let steps : n.taken + f ≡ m.taken + f = omega (arith, mv.taken) in
      goes_on false _ m n printed y st.0 f J st.2 (R (n.taken + f) J) mv st.3 (wanted_at_most x f st.0 st.1) no_strict
      (ap (λ t. R t J) steps ∙ G.same ∙ ap (after printed []) (st.4 (gives o (world m f J))));
}
  where
    wanted_at_most : (x : Frame) (f k : ℕ) → suc f ≤ wanted x k → f ≤ k
    wanted_at_most (frame.Loop x) f k le = omega arith
    wanted_at_most (frame.Value x) f k le = omega arith
    wanted_at_most (frame.Call x) f k le = omega arith
    wanted_at_most (frame.Normal x) f k le = omega arith
    wanted_at_most (frame.Plain x) f k le = omega arith

-- a loop's frame has been taken off m: it is one turn deeper
pub at_turn : (m n : Point) (printed : List ℕ) (x : LoopFrame) (o : Outcome) (y : Focus)
    → Moves true (λ part w. repeated m.setting.program part x (gives o w)) m n y → (R : Runs)
    → At R (record m { frames = frame.Loop x ∷ m.frames }) printed (focus.Answer o) → At R n printed y
at_turn m n printed x o y mv R at = record {
  gives = λ f J.
      let G = at.gives f J in
      let st = G.frames in
      let le : suc f ≤ st.0 = st.1 in
      let steps : n.taken + f ≡ m.taken + f = omega (arith, mv.taken) in
      goes_on true _ m n printed y st.0 f J st.2 (R (n.taken + f) J) mv st.3 (omega arith) (λ h. le)
      (ap (λ t. R t J) steps ∙ G.same ∙ ap (after printed []) (st.4 (gives o (world m f J))));
}

-- a print, as the frames see it: its bytes stand before all that they make
pub prints_bytes : (p : Program) (g : ℕ) (xs : List Frame) (make : Answer → Answer) → Stands p g xs make
    → (bytes : List ℕ) (w : World) → make (prints bytes w) ≡ after bytes [] (make (gives outcome.Normal w))
prints_bytes p g xs make st bytes w =
    ap (λ out. make (answer outcome.Normal w out [])) (sym (append-nil bytes)) ∙ stands_after p g xs make st bytes (gives outcome.Normal w)

-- the bytes have been printed
pub at_print : (m : Point) (printed : List ℕ) (bytes : Vec ℕ Global) (R : Runs) → At R m printed (focus.Print bytes)
    → At R m (printed ++ bytes.items) (focus.Answer outcome.Normal)
at_print m printed bytes R at = record {
  gives = λ f J.
      let p = m.setting.program in
      let G = at.gives f J in
      record {
        make = G.make;
        depth = G.depth;
        frames = G.frames;
        deep = G.deep;
        same = G.same ∙ ap (after printed []) (prints_bytes p (suc f) m.frames G.make G.frames bytes.items (world m f J)) ∙ after_after printed bytes.items [] (G.make (gives outcome.Normal (world m f J)));
      };
}
