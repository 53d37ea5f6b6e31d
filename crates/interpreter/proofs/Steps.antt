-- Steps of the machine, and its ends.
use Rattle.std.proofs.Common.{Bor, ◌≡◌, ℕ, suc, ◌+◌, ◌-◌, ◌≤◌, ◌<◌, true, false, List, [], ◌∷◌, ◌++◌, length, Ok, Err, Vec, Global, refl, sym, ap, subst, ◌∙◌, arith, append-nil, append_assoc, ◌*◌}
use Rattle.std.proofs.Math.Nat.{mul-suc}
use Rattle.pb_io.specs.declared.sink.PutError.{PutError}
use Rattle.pb_io.specs.Faults.{Counts}
use Rattle.pb_io.specs.Sink.{SinkState, Puts}
use Rattle.pb_io.proofs.Counts.{Counts-ok}
use Rattle.pb_io.proofs.Puts.{Puts-nil, Puts-stop, Puts-append}
use Rattle.core_tree.specs.declared.expr.Expr.{Expr, out-Expr}
use Rattle.core_tree.specs.declared.stmt.Stmt.{Stmt, out-Stmt}
use Rattle.core_tree.specs.declared.program.Program.{Program}
use Rattle.heap_arena.specs.Heap.{Value}
use Rattle.relation_bounds.specs.declared.journal.Entry.{Entry}
use Rattle.evaluation.specs.declared.outcome.Outcome.{Outcome}
use Rattle.evaluation.specs.declared.outcome.Outcome.TheVariants.{Normal, Spent}
use Rattle.evaluation.specs.World.{World, Answer, gives, after}
use Rattle.evaluation.specs.Calls.{Parts, construct}
use Rattle.evaluation.specs.Evaluate.{expr_node}
use Rattle.evaluation.specs.Execute.{stmt_node, turn, meaning}
use Rattle.interpreter.specs.declared.frame.LoopFrame.{LoopFrame}
use Rattle.interpreter.specs.declared.frame.LoopFrame.TheVariants as loop
use Rattle.interpreter.specs.declared.frame.CallFrame.{CallFrame}
use Rattle.interpreter.specs.declared.frame.CallFrame.TheVariants as call
use Rattle.interpreter.specs.declared.frame.CallEnd.TheVariants as end
use Rattle.interpreter.specs.declared.frame.NormalFrame.{NormalFrame}
use Rattle.interpreter.specs.declared.frame.NormalFrame.TheVariants as normal
use Rattle.interpreter.specs.declared.frame.PlainFrame.TheVariants as plain
use Rattle.interpreter.specs.declared.frame.ValueFrame.{ValueFrame}
use Rattle.interpreter.specs.declared.frame.PlainFrame.{PlainFrame}
use Rattle.interpreter.specs.declared.frame.LoopParts.{LoopParts}
use Rattle.interpreter.specs.declared.frame.Frame.{Frame}
use Rattle.interpreter.specs.declared.frame.Frame.TheVariants as frame
use Rattle.interpreter.specs.declared.frame.Focus.{Focus}
use Rattle.interpreter.specs.declared.frame.Focus.TheVariants as focus
use Rattle.interpreter.specs.declared.frame.EarlyEnd.{EarlyEnd}
use Rattle.interpreter.specs.declared.frame.EarlyEnd.TheVariants as early
use Rattle.interpreter.specs.Frames.{loop_of, repeated, resumed, focused}
use Rattle.interpreter.specs.Setting.{Setting, Point, world}
use Rattle.interpreter.specs.Weights.{frame_calling, call_frame_weight, frame_weight, frames_weight, focus_weight, entry_weight, IsLight}
use Rattle.interpreter.specs.Moves.{is_other, Moves}
use Rattle.interpreter.specs.Points.{Stands, At, Leads, Ends, Stops, work, sink_answer, Runs}
use Rattle.interpreter.proofs.Opens.{no_step_expr, no_step_stmt}
use Rattle.interpreter.proofs.Runs.{stepped, at_expr, at_stmt, at_loop, at_construct, at_answer, at_turn, at_print, prints_bytes}

-- ---- the machine goes on

-- nothing was put
leads : (m n : Point) (x y : Focus) (sink : SinkState) → n.setting ≡ m.setting → n.marks ≡ m.marks
    → n.taken ≤ n.setting.budget → ((R : Runs) (printed : List ℕ) → At R m printed x → At R n printed y)
    → Leads m x sink n y sink
leads m n x y sink setting marks within on = record {
  more = [];
  put = Puts-nil sink tt;
  on = λ R printed at. subst (λ out. At R n out y) (sym (append-nil printed)) (on R printed at);
  setting = setting;
  marks = marks;
  within = within;
}

-- the steps of the budget that are left weigh one more than what a node may leave
step_less : (each budget taken a b : ℕ) → taken < budget → a < each + b
    → each * (budget - (taken + 1)) + a < each * (budget - taken) + b
step_less each budget taken a b lt le =
    let left : budget - taken ≡ suc (budget - (taken + 1)) = omega arith in
    rw (left, mul-suc each (budget - (taken + 1))) (omega arith)

-- ---- steps

abbrev pub Goes : Point → Focus → SinkState → Point → Focus → SinkState → Type 0
Goes m x before n y now = Leads m x before n y now × (work n y < work m x)

-- the work falls where a node is entered
entered_less : (m n : Point) (x y : Focus) → n.setting ≡ m.setting → n.taken ≡ m.taken + 1 → m.taken < m.setting.budget
    → IsLight (entry_weight (length m.setting.program.classes)) m n y → work n y < work m x
entered_less m n x y setting taken lt light =
    let classes = length m.setting.program.classes in
    let less = step_less (10 + entry_weight classes) m.setting.budget m.taken (frames_weight classes n.frames + focus_weight y) (frames_weight classes m.frames) lt (omega (arith, light)) in
    rw (taken, setting) (omega (arith, less))

-- the work falls where no step is taken, from a heavier focus
same_less : (more : ℕ) (m n : Point) (x y : Focus) → n.setting ≡ m.setting → n.taken ≡ m.taken
    → 9 + more < focus_weight x → IsLight more m n y → work n y < work m x
same_less more m n x y setting taken heavy light = rw (taken, setting) (omega (arith, light, heavy))

-- the work falls where a frame is taken off that weighs more than what is left
answer_less : (more : ℕ) (m n : Point) (f : Frame) (o : Outcome) (y : Focus) → n.setting ≡ m.setting → n.taken ≡ m.taken
    → 1 + more < frame_weight (length m.setting.program.classes) f → IsLight more m n y
    → work n y < work (record m { frames = f ∷ m.frames }) (focus.Answer o)
answer_less more m n f o y setting taken heavy light = rw (taken, setting) (omega (arith, light, heavy))

pub step_expr : (m n : Point) (e : Bor Expr) (y : Focus) (sink : SinkState) → m.taken < m.setting.budget
    → Moves false (λ part. expr_node m.setting.program part (out-Expr e.now)) (stepped m) n y
    → IsLight (entry_weight (length m.setting.program.classes)) m n y → Goes m (focus.Expr e) sink n y sink
step_expr m n e y sink lt mv light = (
  leads m n (focus.Expr e) y sink mv.setting mv.marks (rw (mv.taken, mv.setting) (omega arith)) (λ R printed at. at_expr m n printed e y mv R at),
  entered_less m n (focus.Expr e) y mv.setting mv.taken lt light,
)

pub step_stmt : (m n : Point) (s : Bor Stmt) (y : Focus) (sink : SinkState) → m.taken < m.setting.budget
    → Moves false (λ part. stmt_node m.setting.program part (out-Stmt s.now)) (stepped m) n y
    → IsLight (entry_weight (length m.setting.program.classes)) m n y → Goes m (focus.Stmt s) sink n y sink
step_stmt m n s y sink lt mv light = (
  leads m n (focus.Stmt s) y sink mv.setting mv.marks (rw (mv.taken, mv.setting) (omega arith)) (λ R printed at. at_stmt m n printed s y mv R at),
  entered_less m n (focus.Stmt s) y mv.setting mv.taken lt light,
)

pub step_loop : (m n : Point) (l : LoopParts) (y : Focus) (sink : SinkState) → m.taken ≤ m.setting.budget
    → Moves false (λ part. turn m.setting.program part (loop_of l)) m n y → IsLight 0 m n y
    → Goes m (focus.Loop l) sink n y sink
step_loop m n l y sink le mv light = (
  leads m n (focus.Loop l) y sink mv.setting mv.marks (rw (mv.taken, mv.setting) le) (λ R printed at. at_loop m n printed l y mv R at),
  same_less 0 m n (focus.Loop l) y mv.setting mv.taken (omega arith) light,
)

pub step_construct : (m n : Point) (k o : ℕ) (args : List Value) (levels : ℕ) (y : Focus) (sink : SinkState)
    → m.taken ≤ m.setting.budget → Moves false (λ part. construct m.setting.program part levels k o args) m n y
    → IsLight (6 * (levels + 1)) m n y → Goes m (focus.Construct k o args levels) sink n y sink
step_construct m n k o args levels y sink le mv light = (
  leads m n (focus.Construct k o args levels) y sink mv.setting mv.marks (rw (mv.taken, mv.setting) le) (λ R printed at. at_construct m n printed k o args levels y mv R at),
  same_less (6 * (levels + 1)) m n (focus.Construct k o args levels) y mv.setting mv.taken (omega arith) light,
)

-- a frame has been taken off
step_frame : (m0 m n : Point) (x : Frame) (more : ℕ) (o : Outcome) (y : Focus) (sink : SinkState)
    → m.taken ≤ m.setting.budget → m0 ≡ record m { frames = x ∷ m.frames } → is_other x ≡ true
    → 1 + more < frame_weight (length m.setting.program.classes) x
    → Moves false (λ part w. resumed m.setting.program part x (gives o w)) m n y → IsLight more m n y
    → Goes m0 (focus.Answer o) sink n y sink
step_frame m0 m n x more o y sink le is other heavy mv light =
    rw is (
      leads _ n (focus.Answer o) y sink mv.setting mv.marks (rw (mv.taken, mv.setting) le) (λ R printed at. at_answer m n printed x o y other mv R at),
      answer_less more m n x o y mv.setting mv.taken heavy light,
    )

pub step_value : (m0 m n : Point) (x : ValueFrame) (o : Outcome) (y : Focus) (sink : SinkState)
    → m.taken ≤ m.setting.budget → m0 ≡ record m { frames = frame.Value x ∷ m.frames }
    → Moves false (λ part w. resumed m.setting.program part (frame.Value x) (gives o w)) m n y → IsLight 0 m n y
    → Goes m0 (focus.Answer o) sink n y sink
step_value m0 m n x o y sink le is mv light = step_frame m0 m n (frame.Value x) 0 o y sink le is refl (omega arith) mv light

pub step_plain : (m0 m n : Point) (x : PlainFrame) (o : Outcome) (y : Focus) (sink : SinkState)
    → m.taken ≤ m.setting.budget → m0 ≡ record m { frames = frame.Plain x ∷ m.frames }
    → Moves false (λ part w. resumed m.setting.program part (frame.Plain x) (gives o w)) m n y → IsLight 0 m n y
    → Goes m0 (focus.Answer o) sink n y sink
step_plain m0 m n x o y sink le is mv light = step_frame m0 m n (frame.Plain x) 0 o y sink le is refl (omega arith) mv light

pub step_normal : (m0 m n : Point) (x : NormalFrame) (o : Outcome) (y : Focus) (sink : SinkState)
    → m.taken ≤ m.setting.budget → m0 ≡ record m { frames = frame.Normal x ∷ m.frames }
    → Moves false (λ part w. resumed m.setting.program part (frame.Normal x) (gives o w)) m n y → IsLight 0 m n y
    → Goes m0 (focus.Answer o) sink n y sink
step_normal m0 m n x o y sink le is mv light = step_frame m0 m n (frame.Normal x) 0 o y sink le is refl (omega arith) mv light

pub step_call : (m0 m n : Point) (x : CallFrame) (o : Outcome) (y : Focus) (sink : SinkState)
    → m.taken ≤ m.setting.budget → m0 ≡ record m { frames = frame.Call x ∷ m.frames }
    → Moves false (λ part w. resumed m.setting.program part (frame.Call x) (gives o w)) m n y
    → IsLight (frame_calling (length m.setting.program.classes) x) m n y → Goes m0 (focus.Answer o) sink n y sink
step_call m0 m n x o y sink le is mv light =
    step_frame m0 m n (frame.Call x) (frame_calling (length m.setting.program.classes) x) o y sink le is refl (calling_less (length m.setting.program.classes) x) mv light
  where
    calling_less : (classes : ℕ) (x : CallFrame) → 1 + frame_calling classes x < call_frame_weight classes x
    calling_less classes (call.Receiver selector es) = omega arith
    calling_less classes (call.Argument c es got) = omega arith

pub step_turn : (m0 m n : Point) (x : LoopFrame) (o : Outcome) (y : Focus) (sink : SinkState)
    → m.taken ≤ m.setting.budget → m0 ≡ record m { frames = frame.Loop x ∷ m.frames }
    → Moves true (λ part w. repeated m.setting.program part x (gives o w)) m n y → IsLight 2 m n y
    → Goes m0 (focus.Answer o) sink n y sink
step_turn m0 m n x o y sink le is mv light =
    rw is (
      leads _ n (focus.Answer o) y sink mv.setting mv.marks (rw (mv.taken, mv.setting) le) (λ R printed at. at_turn m n printed x o y mv R at),
      answer_less 2 m n (frame.Loop x) o y mv.setting mv.taken (omega arith) light,
    )

-- bytes that were put without an error
counts_done : {T U E : Type 0} (error : E) (before now : ℕ) (done : T) (value : U) → Counts error before now (Ok done)
    → Counts error before now (Ok value)
counts_done error before now done value counts = record {
  later = counts.later;
  rose = λ is. cc;
  stands = λ _. Counts-ok error before now done counts;
}

puts_done : {T U : Type 0} (before now : SinkState) (bytes : List ℕ) (done : T) (value : U)
    → Puts before now bytes (Ok done) → Puts before now bytes (Ok value)
puts_done before now bytes done value put = record {
  ok = put.ok;
  err = tt;
  flushed = put.flushed;
  flushes = put.flushes;
  faults = counts_done _ before.faults now.faults done value put.faults;
  wants = counts_done _ before.wants now.wants done value put.wants;
}

pub step_print : {T : Type 0} (m : Point) (bytes : Vec ℕ Global) (before now : SinkState) (done : T)
    → m.taken ≤ m.setting.budget → Puts before now bytes.items (Ok done)
    → Goes m (focus.Print bytes) before m (focus.Answer Normal) now
step_print m bytes before now done le put = (
  record {
    more = bytes.items;
    put = puts_done before now bytes.items done tt put;
    on = λ R printed at. at_print m printed bytes R at;
    setting = refl;
    marks = refl;
    within = le;
  },
  omega arith,
)

-- ---- the run's end

empty_same : (p : Program) (g : ℕ) (xs : List Frame) (make : Answer → Answer) → xs ≡ [] → Stands p g xs make
    → (a : Answer) → make a ≡ a
empty_same p g [] make e st = st
empty_same p g (x ∷ xs) make e st = cc

-- a run with that many steps more
at_steps : (m : Point) (o : Outcome) (f : ℕ) → m.frames ≡ [] → (R : Runs) (printed : List ℕ) (J : List Entry)
    → At R m printed (focus.Answer o) → R (m.taken + f) J ≡ after printed [] (gives o (world m f J))
at_steps m o f empty R printed J at =
    let G = at.gives f J in
    G.same ∙ ap (after printed []) (empty_same m.setting.program _ m.frames G.make empty G.frames (gives o (world m f J)))

-- the run with the budget as its steps
at_budget : (m : Point) (o : Outcome) → m.taken ≤ m.setting.budget → m.frames ≡ []
    → (R : Runs) (printed : List ℕ) (J : List Entry) → At R m printed (focus.Answer o)
    → R m.setting.budget J ≡ after printed [] (gives o (world m (m.setting.budget - m.taken) J))
at_budget m o le empty R printed J at =
    let e : m.setting.budget ≡ m.taken + (m.setting.budget - m.taken) = omega arith in
    ap (λ t. R t J) e ∙ at_steps m o (m.setting.budget - m.taken) empty R printed J at

-- the run with just the steps that were taken
at_taken : (m n : Point) (o : Outcome) → n.taken ≡ m.taken → m.frames ≡ []
    → (R : Runs) (printed : List ℕ) (J : List Entry) → At R m printed (focus.Answer o)
    → R n.taken J ≡ after printed [] (gives o (world m 0 J))
at_taken m n o taken empty R printed J at =
    let e : n.taken ≡ m.taken + 0 = omega (arith, taken) in
    ap (λ t. R t J) e ∙ at_steps m o 0 empty R printed J at

pub ends_answer : (m n : Point) (o : Outcome) (sink : SinkState) → m.taken ≤ m.setting.budget → m.frames ≡ []
    → n.setting ≡ m.setting → n.marks ≡ m.marks → n.taken ≡ m.taken → n.now ≡ m.now
    → Ends m (focus.Answer o) sink n sink o
ends_answer m n o sink le empty setting marks taken now = record {
  within = rw taken le;
  setting = setting;
  marks = marks;
  outcome = λ R printed J at. ap (λ (a : Answer). a.outcome) (at_budget m o le empty R printed J at);
  heap = λ R printed J at. ap (λ (a : Answer). a.world.now) (at_budget m o le empty R printed J at) ∙ sym now;
  fuel = λ R printed J at. let e = ap (λ (a : Answer). a.world.fuel) (at_budget m o le empty R printed J at) in omega (arith, e, taken);
  journal = λ R printed J at. ap (λ (a : Answer). a.world.journal) (at_budget m o le empty R printed J at);
  put = λ R printed J at. ([], ap (λ (a : Answer). a.out) (at_budget m o le empty R printed J at), ap (λ (a : Answer). a.out) (at_taken m n o taken empty R printed J at), Puts-nil sink tt);
}

-- ---- a run whose steps are spent

-- it passes all frames, and the heap stays
abbrev IsSpent : World → Answer → Type 0
IsSpent w a = (v : World) × ((v.now ≡ w.now) × ((v.fuel ≡ w.fuel) × ((v.journal ≡ w.journal) × (a ≡ gives Spent v))))

spent_frame : (p : Program) (part : Parts) (x : Frame) (w : World) → IsSpent w (resumed p part x (gives Spent w))
spent_frame p part (frame.Value x) w = (w, (refl, (refl, (refl, refl))))
spent_frame p part (frame.Call x) w = (w, (refl, (refl, (refl, refl))))
spent_frame p part (frame.Loop (loop.Body l)) w = (w, (refl, (refl, (refl, refl))))
spent_frame p part (frame.Loop (loop.Updates l)) w = (w, (refl, (refl, (refl, refl))))
spent_frame p part (frame.Normal (normal.Rest ss)) w = (w, (refl, (refl, (refl, refl))))
spent_frame p part (frame.Normal (normal.FirstTurn l)) w = (w, (refl, (refl, (refl, refl))))
spent_frame p part (frame.Plain (plain.Leave (end.Method t) this locals)) w = (record w { this = this; locals = locals; live = w.live - 1 }, (refl, (refl, (refl, refl))))
spent_frame p part (frame.Plain (plain.Leave end.Constructor this locals)) w = (record w { this = this; locals = locals; live = w.live - 1 }, (refl, (refl, (refl, refl))))
spent_frame p part (frame.Plain (plain.Catching ks)) w = (w, (refl, (refl, (refl, refl))))
spent_frame p part (frame.Plain (plain.Finally s)) w = (w, (refl, (refl, (refl, refl))))
spent_frame p part (frame.Plain (plain.Finished o)) w = (w, (refl, (refl, (refl, refl))))
spent_frame p part (frame.Normal (normal.New o)) w = (w, (refl, (refl, (refl, refl))))
spent_frame p part (frame.Normal (normal.Parent o maker)) w = (w, (refl, (refl, (refl, refl))))
spent_frame p part (frame.Normal (normal.Fields o c next fields)) w = (w, (refl, (refl, (refl, refl))))

spent_all : (p : Program) (g : ℕ) (xs : List Frame) (make : Answer → Answer) → Stands p g xs make → (w : World)
    → IsSpent w (make (gives Spent w))
spent_all p g [] make st w = (w, (refl, (refl, (refl, st (gives Spent w)))))
spent_all p g (x ∷ xs) make st w =
    let here = spent_frame p (meaning p st.0) x w in
    let rest = spent_all p g xs st.2 st.3 here.0 in
    (rest.0, (rest.1.0 ∙ here.1.0, (rest.1.1.0 ∙ here.1.1.0, (rest.1.1.1.0 ∙ here.1.1.1.0, st.4 (gives Spent w) ∙ ap st.2 here.1.1.1.1 ∙ rest.1.1.1.1))))

ends_spent : (m : Point) (x : Focus) (sink : SinkState) → m.taken ≡ m.setting.budget
    → ((d : ℕ) (J : List Entry) → let p = m.setting.program in
    focused p (meaning p d) x (world m 0 J) ≡ gives Spent (world m 0 J))
    → Ends m x sink m sink Spent
ends_spent m x sink full spent = record {
  within = omega arith;
  setting = refl;
  marks = refl;
  outcome = λ R printed J at. ap (λ (a : Answer). a.outcome) (whole R printed J at).1.1.1.1;
  heap = λ R printed J at. ap (λ (a : Answer). a.world.now) (whole R printed J at).1.1.1.1 ∙ (whole R printed J at).1.0;
  fuel = λ R printed J at. let e = ap (λ (a : Answer). a.world.fuel) (whole R printed J at).1.1.1.1 in let z = (whole R printed J at).1.1.0 in omega (arith, e, z, full);
  journal = λ R printed J at. ap (λ (a : Answer). a.world.journal) (whole R printed J at).1.1.1.1 ∙ (whole R printed J at).1.1.1.0;
  put = λ R printed J at.
      let out = ap (λ (a : Answer). a.out) (whole R printed J at).1.1.1.1 in
      ([], out, ap (λ t. (R t J).out) full ∙ out, Puts-nil sink tt);
}
  where
    whole : (R : Runs) (printed : List ℕ) (J : List Entry) → At R m printed x
        → (v : World) × ((v.now ≡ m.now) × ((v.fuel ≡ 0) × ((v.journal ≡ J)
        × (R m.setting.budget J ≡ after printed [] (gives Spent v)))))
    whole R printed J at =
        let G = at.gives 0 J in
        let e : m.setting.budget ≡ m.taken + 0 = omega (arith, full) in
        let s = spent_all m.setting.program _ m.frames G.make G.frames (world m 0 J) in
        (s.0, (s.1.0, (s.1.1.0, (s.1.1.1.0, ap (λ t. R t J) e ∙ G.same ∙ ap (λ a. after printed [] (G.make a)) (spent G.depth J) ∙ ap (after printed []) s.1.1.1.1))))

pub ends_expr : (m : Point) (e : Bor Expr) (sink : SinkState) → m.taken ≡ m.setting.budget
    → Ends m (focus.Expr e) sink m sink Spent
ends_expr m e sink full = ends_spent m (focus.Expr e) sink full (λ d J. no_step_expr m.setting.program d e.now m J)

pub ends_stmt : (m : Point) (s : Bor Stmt) (sink : SinkState) → m.taken ≡ m.setting.budget
    → Ends m (focus.Stmt s) sink m sink Spent
ends_stmt m s sink full = ends_spent m (focus.Stmt s) sink full (λ d J. no_step_stmt m.setting.program d s.now m J)

-- ---- early ends

-- memory ran out: what was printed begins what the run with the steps taken prints
pub stops : (m n : Point) (x : Focus) (sink : SinkState) → m.taken ≤ n.taken → n.taken ≤ m.setting.budget
    → Stops m x sink n sink early.OutOfMemory
stops m n x sink from within = record {
  within = within;
  put = λ R printed J at.
      let f = n.taken - m.taken in
      let e : n.taken ≡ m.taken + f = omega arith in
      let G = at.gives f J in
      let inner = G.make (focused m.setting.program (meaning m.setting.program G.depth) x (world m f J)) in
      ([], (inner.out, ap (λ t. (R t J).out) e ∙ ap (λ (a : Answer). a.out) G.same, Puts-nil sink tt));
}

-- the sink refused, and a prefix of the bytes was put
pub stops_print : {T : Type 0} (m : Point) (bytes : Vec ℕ Global) (before now : SinkState) (error : PutError)
    → m.taken ≤ m.setting.budget → Puts before now bytes.items {T = T} (Err error)
    → Stops m (focus.Print bytes) before m now (early.Refused error)
stops_print m bytes before now error le put = record {
  within = le;
  put = λ R printed J at.
      let G = at.gives 0 J in
      let inner = G.make (gives Normal (world m 0 J)) in
      let e : m.taken ≡ m.taken + 0 = omega arith in
      let whole = ap (λ t. R t J) e ∙ G.same ∙ ap (after printed []) (prints_bytes m.setting.program _ m.frames G.make G.frames bytes.items (world m 0 J)) in
      (bytes.items ++ inner.out, ([], ap (λ (a : Answer). a.out) whole ∙ ap (λ out. printed ++ out) (sym (append-nil (bytes.items ++ inner.out))), Puts-stop before now bytes.items inner.out error put));
}

-- ---- whole drives

pub leads_self : (m : Point) (x : Focus) (sink : SinkState) → m.taken ≤ m.setting.budget → Leads m x sink m x sink
leads_self m x sink le = leads m m x x sink refl refl le (λ R printed at. at)

pub leads_on : (a b c : Point) (x y z : Focus) (first second third : SinkState) → Leads a x first b y second
    → Leads b y second c z third → Leads a x first c z third
leads_on a b c x y z first second third f g = record {
  more = f.more ++ g.more;
  put = Puts-append first second third f.more g.more tt (Ok tt) f.put g.put;
  on = λ R printed at. subst (λ out. At R c out z) (append_assoc printed f.more g.more) (g.on R (printed ++ f.more) (f.on R printed at));
  setting = g.setting ∙ f.setting;
  marks = g.marks ∙ f.marks;
  within = g.within;
}

pub drives_end : (a b c : Point) (x y : Focus) (first second third : SinkState) (o : Outcome)
    → Leads a x first b y second → Ends b y second c third o → Ends a x first c third o
drives_end a b c x y first second third o l e = record {
  within = rw (sym l.setting) e.within;
  setting = e.setting ∙ l.setting;
  marks = e.marks ∙ l.marks;
  outcome = λ R printed J at. ap (λ (s : Setting). (R s.budget J).outcome) (sym l.setting) ∙ e.outcome R (printed ++ l.more) J (l.on R printed at);
  heap = λ R printed J at. ap (λ (s : Setting). (R s.budget J).world.now) (sym l.setting) ∙ e.heap R (printed ++ l.more) J (l.on R printed at);
  fuel = λ R printed J at. subst (λ (s : Setting). (R s.budget J).world.fuel + c.taken ≡ s.budget) l.setting (e.fuel R (printed ++ l.more) J (l.on R printed at));
  journal = λ R printed J at. ap (λ (s : Setting). (R s.budget J).world.journal) (sym l.setting) ∙ e.journal R (printed ++ l.more) J (l.on R printed at);
  put = λ R printed J at.
      let p = e.put R (printed ++ l.more) J (l.on R printed at) in
      (l.more ++ p.0, ap (λ (s : Setting). (R s.budget J).out) (sym l.setting) ∙ p.1 ∙ append_assoc printed l.more p.0, p.2 ∙ append_assoc printed l.more p.0, Puts-append first second third l.more p.0 tt (Ok tt) l.put p.3);
}

pub drives_early : (a b c : Point) (x y : Focus) (first second third : SinkState) (end : EarlyEnd)
    → Leads a x first b y second → Stops b y second c third end → Stops a x first c third end
drives_early a b c x y first second third end l s = record {
  within = rw (sym l.setting) s.within;
  put = λ R printed J at.
      let p = s.put R (printed ++ l.more) J (l.on R printed at) in
      (l.more ++ p.0, (p.1.0, p.1.1 ∙ append_assoc printed l.more (p.0 ++ p.1.0) ∙ ap (λ out. printed ++ out) (sym (append_assoc l.more p.0 p.1.0)), Puts-append first second third l.more p.0 tt (sink_answer end) l.put p.1.2));
}
