-- What a run of the machine and the flush after it come to.
use Rattle.std.proofs.Common.{◌≡◌, ◌⊎◌, inl, inr, ℕ, ◌+◌, Bool, false, List, [], Option, Some, None, MatchOption, IsTrue, refl, sym, ◌∙◌, ap, subst, append-nil, arith}
use Rattle.pb_io.specs.declared.sink.PutError.{PutError}
use Rattle.pb_io.specs.declared.sink.PutError.TheVariants as put
use Rattle.pb_io.specs.Faults.{raised}
use Rattle.pb_io.specs.Sink.{SinkState, AppendsPrefix}
use Rattle.core_tree.specs.declared.program.Program.{Program}
use Rattle.heap_arena.specs.State.{StoreState}
use Rattle.evaluation.specs.Run.{run, ending, Ending}
use Rattle.interpreter.specs.declared.stop.RunStop.{RunStop}
use Rattle.interpreter.specs.declared.stop.RunStop.TheVariants as how
use Rattle.interpreter.specs.Machine.{EndsRun, EndsWhole, Refuses, refusal}
use Rattle.planb_run.specs.declared.ending.Stop.{Stop}
use Rattle.planb_run.specs.declared.ending.Stop.TheVariants as stop
use Rattle.planb_run.specs.Causes.{run_stop}
use Rattle.planb_run.specs.Headline.{FlushesOnce, LeavesOutput, RefusesLast, stop_of}
use Rattle.planb_run.specs.Stages.{Executes, Flushes}

-- there is a store, and what holds of each holds of it
pub with_store : {S : Type 0} (o : Option S) (Q : S → Type 0) (R : Type 0) → MatchOption o ⊥ Q → ((s : S) → Q s → R) → R
with_store None Q R holds gives = absurd holds
with_store (Some s) Q R holds gives = gives s holds

-- what was refused after a moment when nothing had been
refuses_later : (before mid now : SinkState) (ended : Stop) → mid.faults ≡ before.faults → mid.wants ≡ before.wants
    → RefusesLast mid now ended → RefusesLast before now ended
refuses_later before mid now stop.OutOfMemory faults wants refuses = rw (← faults, ← wants) refuses
refuses_later before mid now stop.WriteFault faults wants refuses = rw (← faults, ← wants) refuses
refuses_later before mid now stop.Done faults wants refuses = refuses
refuses_later before mid now (stop.Uncaught number message) faults wants refuses = refuses
refuses_later before mid now stop.Usage faults wants refuses = refuses
refuses_later before mid now (stop.Refused why) faults wants refuses = refuses
refuses_later before mid now (stop.StepsSpent budget) faults wants refuses = refuses
refuses_later before mid now (stop.Full what) faults wants refuses = refuses
refuses_later before mid now stop.ReadFault faults wants refuses = refuses

-- a run that stops with its steps spent names its budget
spent_stop : (budget n : ℕ) (end : Ending) → stop_of end budget ≡ Some (stop.StepsSpent n)
    → (end ≡ Ending.StepsSpent) × (budget ≡ n)
spent_stop budget n Ending.Done is = cc
spent_stop budget n (Ending.Uncaught number message) is = cc
spent_stop budget n Ending.StepsSpent is = (refl, cc)
spent_stop budget n (Ending.Full what) is = cc
spent_stop budget n Ending.Stuck is = cc

module _ (p : Program) (arguments : List (List ℕ)) (budget : ℕ) where
  -- the law on spent steps, of this run
  abbrev pub LeavesNone : Type 0
  LeavesNone = ending (run p arguments budget []) ≡ Ending.StepsSpent → (run p arguments budget []).world.fuel ≡ 0

  -- a run that stops so takes all of its steps
  all_taken : LeavesNone → (taken n : ℕ) (ended : Stop) → (run p arguments budget []).world.fuel + taken ≡ budget
      → stop_of (ending (run p arguments budget [])) budget ≡ Some ended → ended ≡ stop.StepsSpent n → taken ≡ n
  all_taken leaves taken n ended fuel is spent =
      let named = spent_stop budget n (ending (run p arguments budget [])) (is ∙ ap Some spent) in
      let none = leaves named.0 in
      omega (arith, fuel, none, named.1)

  -- there was no memory for the store
  pub not_begun : (sink : SinkState) → Executes p arguments budget sink sink stop.OutOfMemory 0
  not_begun sink = inr (inr (record { stop_is = refl; out = refl; no_step = refl }))

  module _ (before mid : SinkState) (store : StoreState) (taken : ℕ) (refused : Bool) where
    abbrev Ended : RunStop → Type 0
    Ended ended = EndsRun p arguments budget before mid store taken refused (Some ended)

    abbrev Executed : RunStop → Type 0
    Executed ended = Executes p arguments budget before mid (run_stop ended budget) taken

    -- the output refused a call with this error
    refused_with : (error : PutError) → Ended (refusal error) → Refuses error before mid → Executed (refusal error)
    refused_with put.WriteFault ends refuses =
        inr (inl (record { within = ends.within; part = ends.ends; output = inl (refuses, inl ends.flushes) }))
    refused_with put.OutOfMemory ends refuses =
        inr (inl (record { within = ends.within; part = ends.ends; output = inl (refuses, inl ends.flushes) }))

    -- the output refused a call, and isn't used any more
    pub kept : (ended : RunStop) → Ended ended → IsTrue refused → Executed ended
    kept ended ends is =
        let refuses = ends.refusal_is is in
        let named = refuses.1 in
        let same : ended ≡ refusal refuses.0 = cc in
        subst Executed (sym same) (refused_with refuses.0 (subst Ended same ends) refuses.2)

    module _ (leaves : LeavesNone) (unrefused : refused ≡ false) (now : SinkState) (flushed : Stop) where
      -- flushed once since the run began
      once_flushed : (ended : RunStop) → Ended ended → FlushesOnce mid now → FlushesOnce before now
      once_flushed ended ends once =
          let stands = ends.stands unrefused in
          record {
            flushed = once.flushed;
            flushes = once.flushes ∙ ap raised ends.flushes;
            faults = once.faults ∙ stands.0;
            wants = once.wants ∙ stands.1;
          }

      -- the flush was refused
      flush_refused : (ended : RunStop) → Ended ended → now.flushes ≡ raised mid.flushes → RefusesLast mid now flushed
          → LeavesOutput before now flushed
      flush_refused ended ends flushes refuses =
          let stands = ends.stands unrefused in
          inl (refuses_later before mid now flushed stands.0 stands.1 refuses, inr (flushes ∙ ap raised ends.flushes))

      -- the run came to its end
      whole_flushed : (end : Ending) (ended : RunStop) → stop_of end budget ≡ Some (run_stop ended budget)
          → Ended ended → EndsWhole p arguments budget end before mid taken
          → Flushes mid now (run_stop ended budget) flushed → Executes p arguments budget before now flushed taken
      whole_flushed end ended is ends whole flush = by_outcome flush.stop_is
        where
          by_outcome : ((flushed ≡ run_stop ended budget) × FlushesOnce mid now) ⊎ RefusesLast mid now flushed
              → Executes p arguments budget before now flushed taken
          by_outcome (inl (same, once)) =
              let stop_is : stop_of (ending (run p arguments budget [])) budget ≡ Some flushed = ap (λ e. stop_of e budget) whole.ending_is ∙ is ∙ ap Some (sym same) in
              inl (record {
                stop_is = stop_is;
                fuel = whole.fuel;
                written = flush.written ∙ whole.written;
                output = once_flushed ended ends once;
                spent = λ n. all_taken leaves taken n flushed whole.fuel stop_is;
              })
          by_outcome (inr refuses) = inr (inl (record {
            within = ends.within;
            part = record {
              part = (run p arguments budget []).out;
              rest = [];
              split = whole.same ∙ sym (append-nil (run p arguments budget []).out);
              written = flush.written ∙ whole.written;
            };
            output = flush_refused ended ends flush.flushes refuses;
          }))

      -- memory ran out before the flush
      part_flushed : Ended how.OutOfMemory → Flushes mid now stop.OutOfMemory flushed
          → Executes p arguments budget before now flushed taken
      part_flushed ends flush = inr (inl (record {
        within = ends.within;
        part = record { part = part.part; rest = part.rest; split = part.split; written = flush.written ∙ part.written };
        output = by_outcome flush.stop_is;
      }))
        where
          part : AppendsPrefix before mid (run p arguments taken []).out
          part = ends.ends

          by_outcome : ((flushed ≡ stop.OutOfMemory) × FlushesOnce mid now) ⊎ RefusesLast mid now flushed
              → LeavesOutput before now flushed
          by_outcome (inl (same, once)) = inr (same, once_flushed how.OutOfMemory ends once)
          by_outcome (inr refuses) = flush_refused how.OutOfMemory ends flush.flushes refuses

      pub and_flushed : (ended : RunStop) → Ended ended → Flushes mid now (run_stop ended budget) flushed
          → Executes p arguments budget before now flushed taken
      and_flushed how.Done ends flush = whole_flushed Ending.Done how.Done refl ends ends.ends flush
      and_flushed (how.Uncaught number message) ends flush =
          whole_flushed (Ending.Uncaught number message) (how.Uncaught number message) refl ends ends.ends flush
      and_flushed how.StepsSpent ends flush = whole_flushed Ending.StepsSpent how.StepsSpent refl ends ends.ends flush
      and_flushed (how.Full what) ends flush = whole_flushed (Ending.Full what) (how.Full what) refl ends ends.ends flush
      and_flushed how.OutOfMemory ends flush = part_flushed ends flush
      and_flushed how.WriteFault ends flush = let is = ends.cause refl in cc
