-- Whole runs of the machine.
use Rattle.std.proofs.Common.{Bor, ◌≡◌, ◌⊎◌, ℕ, ◌+◌, Bool, true, false, nat_le, List, [], ◌∷◌, ◌++◌, Option, Some, None, MatchOption, Result, Ok, Err, slice_get, refl, sym, ap, ◌∙◌, arith, append_assoc, append-nil, inl, inr}
use Rattle.std.specs.Option.{option_map_or}
use Rattle.pb_io.specs.declared.sink.PutError.{PutError}
use Rattle.pb_io.specs.declared.sink.PutError.TheVariants as put
use Rattle.pb_io.specs.Sink.{SinkState, with_bytes, AppendsPrefix, Puts}
use Rattle.pb_io.proofs.Counts.{Counts-ok}
use Rattle.pb_io.proofs.Puts.{with_bytes-nil, NoFewer-refl}
use Rattle.core_tree.specs.declared.what.What.{What}
use Rattle.core_tree.specs.declared.stmt.Stmt.{Stmt}
use Rattle.core_tree.specs.declared.program.Method.{Method}
use Rattle.core_tree.specs.declared.program.Program.{Program}
use Rattle.heap_arena.specs.Heap.{cell_count, most_cells}
use Rattle.heap_arena.specs.State.{StoreState}
use Rattle.relation_bounds.specs.declared.journal.Entry.{Entry}
use Rattle.evaluation.specs.declared.outcome.Outcome.{Outcome}
use Rattle.evaluation.specs.declared.outcome.Outcome.TheVariants as outcome
use Rattle.evaluation.specs.declared.outcome.Outcome.TheVariants.{Normal}
use Rattle.evaluation.specs.World.{gives}
use Rattle.evaluation.specs.Calls.{block}
use Rattle.evaluation.specs.Execute.{meaning}
use Rattle.evaluation.specs.Run.{arguments_heap, ending_of, first_world, has_short_arguments, run, run_main, Ending}
use Rattle.interpreter.specs.declared.frame.NormalFrame.TheVariants as normal
use Rattle.interpreter.specs.declared.frame.Frame.TheVariants as frame
use Rattle.interpreter.specs.declared.frame.Focus.TheVariants as focus
use Rattle.interpreter.specs.declared.frame.EarlyEnd.{EarlyEnd}
use Rattle.interpreter.specs.declared.frame.EarlyEnd.TheVariants as early
use Rattle.interpreter.specs.declared.run.Beginning.{Beginning}
use Rattle.interpreter.specs.declared.stop.RunStop.{RunStop}
use Rattle.interpreter.specs.declared.stop.RunStop.TheVariants as how
use Rattle.interpreter.specs.Frames.{resumed}
use Rattle.interpreter.specs.Setting.{Point, world}
use Rattle.interpreter.specs.Points.{At, Ends, Stops, Drives, Runs}
use Rattle.interpreter.specs.Machine.{is_refused, refusal, stopped, told, Refuses, Tells, TellsEnd, EndsBy, EndsIf, EndsRun, EndsWhole, Finishes, FinishesIf, IsBegun, IsFullOf, IsMain, IsRefused}

-- the run of a program whose arguments fit is that of main's body
run_is : (p : Program) (args : List (List ℕ)) (main : Method) (steps : ℕ) (J : List Entry) → IsMain p main
    → has_short_arguments args ≡ true → nat_le (cell_count (arguments_heap args)) most_cells ≡ true
    → run p args steps J ≡ block p (meaning p steps) main.body (first_world main args steps J)
run_is p args main steps J is short fits = rw (is, short, fits) refl

-- where main begins, each run of the program comes by
pub at_begin : (m : Point) (args : List (List ℕ)) (main : Method) (rest : Bor (List Stmt))
    → IsMain m.setting.program main → has_short_arguments args ≡ true
    → nat_le (cell_count (arguments_heap args)) most_cells ≡ true → m.frames ≡ frame.Normal (normal.Rest rest) ∷ []
    → rest.now ≡ main.body → m.taken ≡ 0 → ((f : ℕ) (J : List Entry) → world m f J ≡ first_world main args f J)
    → At (run m.setting.program args) m [] (focus.Answer Normal)
at_begin m args main rest is short fits frames body none same = record {
  gives = λ f J.
      let p = m.setting.program in
      record {
        make = resumed p (meaning p f) (frame.Normal (normal.Rest rest));
        depth = f;
        frames = rw frames (f, omega arith, (λ a. a), (λ a. refl), λ a. refl);
        deep = omega arith;
        same = ap (λ t. run p args t J) (steps f) ∙ run_is p args main f J is short fits ∙ ap (block p (meaning p f) main.body) (sym (same f J)) ∙ ap (λ ss. block p (meaning p f) ss (world m f J)) (sym body);
      };
}
  where
    steps : (f : ℕ) → m.taken + f ≡ f
    steps f = omega (arith, none)

-- ---- what a run does to the counts of the sink

-- no call was refused
counts_stand : (before after : SinkState) (bytes : List ℕ) → Puts before after bytes {T = Unit {0}} (Ok tt)
    → (after.faults ≡ before.faults) × (after.wants ≡ before.wants)
counts_stand before after bytes puts = (Counts-ok _ _ _ tt puts.faults, Counts-ok _ _ _ tt puts.wants)

-- the last call was refused
counts_refuse : (error : PutError) (before after : SinkState) (bytes : List ℕ)
    → Puts before after bytes {T = Unit {0}} (Err error) → Refuses error before after
counts_refuse put.WriteFault before after bytes puts = (puts.faults.rose refl, puts.wants.stands (λ is. cc))
counts_refuse put.OutOfMemory before after bytes puts = (puts.faults.stands (λ is. cc), puts.wants.rose refl)

-- ---- ends

module _ (m n : Point) (args : List (List ℕ)) (before after : SinkState) (store : StoreState)
    (at : At (run m.setting.program args) m [] (focus.Answer Normal)) (unmarked : m.marks ≡ [])
    (now_is : n.now ≡ store.now) (marks_are : n.marks ≡ store.marks) where
  abbrev R : Runs
  R = run m.setting.program args

  abbrev Ended : Bool → Option RunStop → Type 0
  Ended = EndsRun m.setting.program args m.setting.budget before after store n.taken

  ends_by : (o : Outcome) (stop : RunStop) → Ends m (focus.Answer Normal) before n after o
      → (stop ≡ how.OutOfMemory) ⊎ (told stop ≡ Some (ending_of n.now o))
      → EndsBy m.setting.program args m.setting.budget before after n.taken (told stop)
  ends_by o stop d (inl is) =
      let put = d.put R [] [] at in
      rw is (record { part = put.0; rest = []; split = put.2 ∙ sym (append-nil put.0); written = put.3.ok })
  ends_by o stop d (inr is) =
      let put = d.put R [] [] at in
      rw is (record {
        ending_is = rw (d.heap R [] [] at, d.outcome R [] [] at) refl;
        journal = d.journal R [] [] at;
        written = put.3.ok ∙ ap (with_bytes before.written) (sym put.1);
        fuel = d.fuel R [] [] at;
        same = put.2 ∙ sym put.1;
      })

  ends_if : (o : Outcome) (stop : Option RunStop) → Ends m (focus.Answer Normal) before n after o
      → TellsEnd (ending_of n.now o) stop → EndsIf m.setting.program args m.setting.budget before after n.taken stop
  ends_if o None d tells = rw (d.heap R [] [] at, d.outcome R [] [] at) tells
  ends_if o (Some stop) d tells = ends_by o stop d tells

  no_fault : (end : Ending) (stop : Option RunStop) → TellsEnd end stop → stop ≡ Some how.WriteFault → false ≡ true
  no_fault end None tells is = cc
  no_fault end (Some stop) (inl oom) is = cc
  no_fault end (Some stop) (inr tells) is = cc

  ended : (o : Outcome) (stop : Option RunStop) → Ends m (focus.Answer Normal) before n after o
      → TellsEnd (ending_of n.now o) stop → Ended false stop
  ended o stop d tells =
      let put = d.put R [] [] at in
      record {
        ends = ends_if o stop d tells;
        within = d.within;
        heap = λ finishes. sym now_is ∙ sym (d.heap R [] [] at);
        marks_are = λ finishes. sym marks_are ∙ d.marks ∙ unmarked;
        flushed = put.3.flushed;
        flushes = put.3.flushes;
        stands = λ _. counts_stand before after _ put.3;
        refusal_is = λ is. cc;
        cause = no_fault (ending_of n.now o) stop tells;
        later = put.3.faults.later;
      }

  -- a part of what was to be put was written
  cut_by : (error : PutError) → AppendsPrefix before after (R n.taken []).out
      → EndsIf m.setting.program args m.setting.budget before after n.taken (Some (refusal error))
  cut_by put.WriteFault part = part
  cut_by put.OutOfMemory part = part

  never_finishes : (error : PutError) {P : Type 0} → Finishes (refusal error) → P
  never_finishes put.WriteFault finishes = absurd finishes
  never_finishes put.OutOfMemory finishes = absurd finishes

  -- the machine stopped early
  stopped_early : (end : EarlyEnd) → Stops m (focus.Answer Normal) before n after end
      → Ended (is_refused (Err end)) (Some (stopped end))
  stopped_early early.OutOfMemory s =
      let put = s.put R [] [] at in
      record {
        ends = record { part = put.0; rest = put.1.0; split = put.1.1; written = put.1.2.ok };
        within = s.within;
        heap = λ finishes. absurd finishes;
        marks_are = λ finishes. absurd finishes;
        flushed = put.1.2.flushed;
        flushes = put.1.2.flushes;
        stands = λ _. counts_stand before after _ put.1.2;
        refusal_is = λ is. cc;
        cause = λ is. cc;
        later = put.1.2.faults.later;
      }
  stopped_early (early.Refused error) s =
      let put = s.put R [] [] at in
      let cut = put.1.2.err in
      record {
        ends = cut_by error (record {
          part = cut.part;
          rest = cut.rest ++ put.1.0;
          split = put.1.1 ∙ ap (λ out. out ++ put.1.0) cut.split ∙ append_assoc cut.part cut.rest put.1.0;
          written = cut.written;
        });
        within = s.within;
        heap = λ finishes. never_finishes error finishes;
        marks_are = λ finishes. never_finishes error finishes;
        flushed = put.1.2.flushed;
        flushes = put.1.2.flushes;
        stands = λ is. cc;
        refusal_is = λ _. (error, refl, counts_refuse error before after _ put.1.2);
        cause = λ _. refl;
        later = put.1.2.faults.later;
      }

  pub ends_run : (end : Result Outcome EarlyEnd) (stop : Option RunStop)
      → Drives m (focus.Answer Normal) before n after end → Tells n.now end stop → Ended (is_refused end) stop
  ends_run (Ok o) stop d tells = ended o stop d tells
  ends_run (Err end) stop d tells = rw tells (stopped_early end d)

-- ---- beginnings

-- the body of main, from its first step
pub run_ends : (m n : Point) (args : List (List ℕ)) (main : Method) (beginning : Beginning) (before after : SinkState)
    (store : StoreState) (end : Result Outcome EarlyEnd) (stop : Option RunStop)
    → IsMain m.setting.program main → IsBegun main args m.now beginning → m.frames ≡ beginning.frames
    → m.locals ≡ beginning.locals → m.this ≡ None → m.live ≡ 1 → m.taken ≡ 0 → m.marks ≡ [] → n.now ≡ store.now
    → n.marks ≡ store.marks → Drives m (focus.Answer Normal) before n after end → Tells n.now end stop
    → EndsRun m.setting.program args m.setting.budget before after store n.taken (is_refused end) stop
run_ends m n args main beginning before after store end stop is begun frames locals this live none unmarked now_is marks_are d tells =
    let body = begun.first.frames in
    let at = at_begin m args main body.0 is begun.short begun.fits (frames ∙ body.1) body.2 none (λ f J. rw (this, locals, begun.first.locals, begun.now_is, live) refl) in
    ends_run m n args before after store at unmarked now_is marks_are end stop d tells

-- a run that takes no step and reaches no sink
untouched : (p : Program) (args : List (List ℕ)) (budget : ℕ) (sink : SinkState) (store : StoreState)
    (stop : Option RunStop)
    → EndsIf p args budget sink sink 0 stop → (FinishesIf stop → ⊥) → (stop ≡ Some how.WriteFault → ⊥)
    → EndsRun p args budget sink sink store 0 false stop
untouched p args budget sink store stop ends never other = record {
  ends = ends;
  within = omega arith;
  heap = λ finishes. absurd (never finishes);
  marks_are = λ finishes. absurd (never finishes);
  flushed = NoFewer-refl sink.flushed;
  flushes = refl;
  stands = λ _. (refl, refl);
  refusal_is = λ is. cc;
  cause = λ is. absurd (other is);
  later = omega arith;
}

-- what a program without main does
pub no_main : (p : Program) (args : List (List ℕ)) (budget : ℕ) (sink : SinkState) (store : StoreState)
    → slice_get p.methods p.main ≡ None → EndsRun p args budget sink sink store 0 false None
no_main p args budget sink store none =
    untouched p args budget sink store None (rw none refl) (λ finishes. finishes) (λ is. cc)

full_ends : (p : Program) (args : List (List ℕ)) (budget : ℕ) (sink : SinkState) (main : Method) (what : What)
    → IsMain p main → IsFullOf what args → EndsWhole p args budget (Ending.Full what) sink sink 0
full_ends p args budget sink main what is full =
    let e = runs budget in
    record {
      ending_is = rw e refl;
      journal = rw e refl;
      written = rw e (sym (with_bytes-nil sink.written));
      fuel = rw e (omega arith);
      same = rw (e, runs 0) refl;
    }
  where
    runs : (steps : ℕ) → run p args steps [] ≡ gives (outcome.Full what) (first_world main args steps [])
    runs steps = ap (λ found. option_map_or (λ (main : Method). run_main p args (first_world main args steps [])) found (gives outcome.Stuck (record { this = None; locals = []; now = []; live = 0; fuel = steps; journal = [] }))) is ∙ full p (first_world main args steps []) refl

-- what is refused before the first step
pub refused : (p : Program) (args : List (List ℕ)) (budget : ℕ) (sink : SinkState) (store : StoreState) (main : Method)
    (stop : RunStop)
    → IsMain p main → IsRefused args stop → EndsRun p args budget sink sink store 0 false (Some stop)
refused p args budget sink store main stop is (inl oom) =
    let part : AppendsPrefix sink sink (run p args 0 []).out =
    record { part = []; rest = (run p args 0 []).out; split = refl; written = sym (with_bytes-nil sink.written) } in
    rw oom (untouched p args budget sink store (Some how.OutOfMemory) part (λ finishes. finishes) (λ is. cc))
refused p args budget sink store main stop is (inr full) =
    let ends = full_ends p args budget sink main full.0 is full.2 in
    rw full.1 (untouched p args budget sink store (Some (how.Full full.0)) ends (λ finishes. finishes) (λ is. cc))

pub absurd_option : {S : Type 0} (o : Option S) (Q : S → Type 0) → MatchOption o ⊥ Q → ((s : S) → Q s → ⊥) → ⊥
absurd_option None Q holds never = holds
absurd_option (Some s) Q holds never = never s holds
