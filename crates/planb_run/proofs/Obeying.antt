-- Each way in which the stages end obeys the headline.
use Rattle.std.proofs.Common.{◌≡◌, ◌⊎◌, inl, inr, ℕ, ◌<◌, ◌≤◌, true, List, [], length, Option, Some, None, Err, refl, sym, ◌∙◌, ap, subst, arith}
use Rattle.std.specs.Prelude.{IfSome}
use Rattle.pb_io.specs.Faults.{Counts}
use Rattle.pb_io.specs.Sink.{SinkState}
use Rattle.pb_io.specs.Files.{FilesState}
use Rattle.java_tokens.specs.Faults.{HasFault}
use Rattle.java_source.specs.declared.refusal.SourceRefusal.{SourceRefusal}
use Rattle.java_source.specs.declared.refusal.SourceRefusal.TheVariants.{TooLong, Lexical}
use Rattle.java_source.specs.declared.refusal.TokenKindError.{TokenKindError}
use Rattle.java_source.specs.Accepted.{Accepted, most_bytes}
use Rattle.java_source.specs.Refused.{RefusesFor, lexical_error}
use Rattle.core_tree.specs.declared.program.Program.{Program}
use Rattle.evaluation.specs.Run.{run, ending, Ending}
use Rattle.planb_run.specs.declared.ending.Stop.{Stop}
use Rattle.planb_run.specs.declared.ending.Stop.TheVariants as stop
use Rattle.planb_run.specs.Command.{Command, command}
use Rattle.planb_run.specs.Headline.{Outside, LeavesOutput, RefusesLast, RisesFor, IsRunStop, IsRefusal, IsEarly, IsRun, IsPartOfRun, HasProgram, IsRefusedFor, StartsAtMost, PrintsNothing, RunsWhole, RunsInPart, arguments_of, stop_of}
use Rattle.planb_run.specs.Stages.{Obeys, RefusesFile, IsUnbegun, Executes}
use Rattle.planb_run.proofs.Sources.{accepted_faultless, refused_lexical, refused_long, refused_unaccepted}

-- ---- what the words ask for, and what the files tell, is one

same_command : (words : List (List ℕ)) (asked other : Command) → command words ≡ Some asked
    → command words ≡ Some other → asked ≡ other
same_command words asked other is other_is = let e = sym is ∙ other_is in cc

told_is : (told : Option (List ℕ)) (source bytes : List ℕ) → IfSome told (λ b. source ≡ b) → told ≡ Some bytes
    → source ≡ bytes
told_is None source bytes is some = cc
told_is (Some b) source bytes is some = let same : b ≡ bytes = cc in is ∙ same

-- ---- stops

-- the stop of a run is one of those
run_stop : (end : Ending) (budget : ℕ) (ended : Stop) → stop_of end budget ≡ Some ended → IsRunStop ended
run_stop Ending.Done budget ended is = let same : stop.Done ≡ ended = cc in subst IsRunStop same tt
run_stop (Ending.Uncaught number message) budget ended is = let same : stop.Uncaught number message ≡ ended = cc in subst IsRunStop same tt
run_stop Ending.StepsSpent budget ended is = let same : stop.StepsSpent budget ≡ ended = cc in subst IsRunStop same tt
run_stop (Ending.Full what) budget ended is = let same : stop.Full what ≡ ended = cc in subst IsRunStop same tt
run_stop Ending.Stuck budget ended is = cc

run_refuses_not : (ended : Stop) → IsRunStop ended → IsRefusal ended → ⊥
run_refuses_not stop.Done run_stop refusal = refusal
run_refuses_not (stop.Uncaught number message) run_stop refusal = refusal
run_refuses_not (stop.StepsSpent budget) run_stop refusal = refusal
run_refuses_not (stop.Full what) run_stop refusal = refusal
run_refuses_not stop.Usage run_stop refusal = refusal
run_refuses_not (stop.Refused why) run_stop refusal = run_stop
run_refuses_not stop.OutOfMemory run_stop refusal = refusal
run_refuses_not stop.ReadFault run_stop refusal = refusal
run_refuses_not stop.WriteFault run_stop refusal = refusal

refused_is_early : (before now : SinkState) (ended : Stop) → RefusesLast before now ended → IsEarly ended
refused_is_early before now stop.Done refuses = refuses
refused_is_early before now (stop.Uncaught number message) refuses = refuses
refused_is_early before now (stop.StepsSpent budget) refuses = refuses
refused_is_early before now (stop.Full what) refuses = refuses
refused_is_early before now stop.Usage refuses = refuses
refused_is_early before now (stop.Refused why) refuses = refuses
refused_is_early before now stop.OutOfMemory refuses = tt
refused_is_early before now stop.ReadFault refuses = tt
refused_is_early before now stop.WriteFault refuses = tt

left_is_early : (before now : SinkState) (ended : Stop) → LeavesOutput before now ended → IsEarly ended
left_is_early before now ended (inl (refuses, flushes)) = refused_is_early before now ended refuses
left_is_early before now ended (inr (same, once)) = subst IsEarly (sym same) tt

early_runs_not : (ended : Stop) → IsEarly ended → IsRunStop ended → ⊥
early_runs_not stop.Done early run_stop = early
early_runs_not (stop.Uncaught number message) early run_stop = early
early_runs_not (stop.StepsSpent budget) early run_stop = early
early_runs_not (stop.Full what) early run_stop = early
early_runs_not stop.Usage early run_stop = early
early_runs_not (stop.Refused why) early run_stop = early
early_runs_not stop.OutOfMemory early run_stop = run_stop
early_runs_not stop.ReadFault early run_stop = run_stop
early_runs_not stop.WriteFault early run_stop = run_stop

early_refuses_not : (ended : Stop) → IsEarly ended → IsRefusal ended → ⊥
early_refuses_not stop.Done early refusal = refusal
early_refuses_not (stop.Uncaught number message) early refusal = refusal
early_refuses_not (stop.StepsSpent budget) early refusal = refusal
early_refuses_not (stop.Full what) early refusal = refusal
early_refuses_not stop.Usage early refusal = refusal
early_refuses_not (stop.Refused why) early refusal = early
early_refuses_not stop.OutOfMemory early refusal = refusal
early_refuses_not stop.ReadFault early refusal = refusal
early_refuses_not stop.WriteFault early refusal = refusal

-- ---- the words aren't a command

pub obeys-usage : (words : List (List ℕ)) (outside : Outside) → command words ≡ None
    → Obeys words outside outside None stop.Usage 0
obeys-usage words outside none =
    let nothing : PrintsNothing words outside outside stop.Usage 0 = record { out = refl; no_step = refl } in
    record {
      words_are = record { exactly = (λ _. none, λ _. refl); files = λ _. refl; nothing = λ _. nothing };
      source_is = record { names = λ asked is. cc; refused = λ _. nothing; read_fault = λ _. nothing };
      run_is = λ no. absurd no;
      early_end = record { write_fault = λ no. cc; out_of_memory = λ no. cc };
      causes = record {
        read_fault = record { rose = λ no. cc; stands = λ _. refl };
        write_fault = record { rose = λ no. cc; stands = λ _. refl };
        refused = λ why no. cc;
      };
      complete = record {
        lacking = λ asked is. cc;
        too_long = λ asked source is. cc;
        lexical = λ asked source kind at is. cc;
        refused = λ asked source is. cc;
        accepted = λ asked source program is. cc;
      };
      program_is = λ no. absurd no;
    }

-- ---- the file gave no program

module _ (before : FilesState) (file : List ℕ) where
  refused-runs_not : (ended : Stop) → RefusesFile before file ended → IsRunStop ended → ⊥
  refused-runs_not stop.Done refused run_stop = refused
  refused-runs_not (stop.Uncaught number message) refused run_stop = refused
  refused-runs_not (stop.StepsSpent budget) refused run_stop = refused
  refused-runs_not (stop.Full what) refused run_stop = refused
  refused-runs_not stop.Usage refused run_stop = run_stop
  refused-runs_not (stop.Refused why) refused run_stop = run_stop
  refused-runs_not stop.OutOfMemory refused run_stop = run_stop
  refused-runs_not stop.ReadFault refused run_stop = run_stop
  refused-runs_not stop.WriteFault refused run_stop = run_stop

  -- where no program is there, it was refused for something, or the end was early
  refused_or_early : (P : Stop → Type 0)
      → ((why : SourceRefusal) → IsRefusedFor before file why → P (stop.Refused why)) → (ended : Stop)
      → RefusesFile before file ended → P ended ⊎ IsEarly ended
  refused_or_early P found stop.Done refused = absurd refused
  refused_or_early P found (stop.Uncaught number message) refused = absurd refused
  refused_or_early P found (stop.StepsSpent budget) refused = absurd refused
  refused_or_early P found (stop.Full what) refused = absurd refused
  refused_or_early P found stop.Usage refused = absurd refused
  refused_or_early P found (stop.Refused why) refused = inl (found why refused)
  refused_or_early P found stop.OutOfMemory refused = inr tt
  refused_or_early P found stop.ReadFault refused = inr tt
  refused_or_early P found stop.WriteFault refused = absurd refused

  only_early : {P : Type 0} (ended : Stop) → P ⊎ IsEarly ended → (P → ⊥) → IsEarly ended
  only_early ended (inl p) none = absurd (none p)
  only_early ended (inr early) none = early

  lacking-early : (ended : Stop) → RefusesFile before file ended → before.lacks file ≡ true → IsEarly ended
  lacking-early ended refused lacks =
      only_early {P = ⊥} ended (refused_or_early (λ _. ⊥) (λ why is. let there = is.there in cc) ended refused) (λ no. no)

  -- what refuses the bytes that are told
  refuses : (source : List ℕ) (why : SourceRefusal) → before.bytes_of file ≡ Some source
      → IsRefusedFor before file why → RefusesFor source why
  refuses source why told is = subst (λ s. RefusesFor s why) (told_is (before.bytes_of file) is.source source is.told told) is.refused

  long-refused : (ended : Stop) (source : List ℕ) → RefusesFile before file ended → before.bytes_of file ≡ Some source
      → most_bytes < length source → (ended ≡ stop.Refused TooLong) ⊎ IsEarly ended
  long-refused ended source refused told long =
      refused_or_early (λ s. s ≡ stop.Refused TooLong) (λ why is. ap stop.Refused (refused_long source why (refuses source why told is) long)) ended refused

  lexical-refused : (ended : Stop) (source : List ℕ) (kind : TokenKindError) (at : ℕ) → RefusesFile before file ended
      → before.bytes_of file ≡ Some source → length source ≤ most_bytes → HasFault source (lexical_error kind at)
      → (ended ≡ stop.Refused (Lexical kind at)) ⊎ IsEarly ended
  lexical-refused ended source kind at refused told few fault =
      refused_or_early (λ s. s ≡ stop.Refused (Lexical kind at)) (λ why is. ap stop.Refused (refused_lexical source why kind at (refuses source why told is) few fault)) ended refused

  unaccepted-refused : (ended : Stop) → RefusesFile before file ended → IsRefusal ended ⊎ IsEarly ended
  unaccepted-refused ended refused = refused_or_early IsRefusal (λ why is. tt) ended refused

  accepted-early : (ended : Stop) (source : List ℕ) (program : Program) → RefusesFile before file ended
      → before.bytes_of file ≡ Some source → Accepted source program → IsEarly ended
  accepted-early ended source program refused told accepted =
      only_early {P = ⊥} ended (refused_or_early (λ _. ⊥) (λ why is. refused_unaccepted source why program (refuses source why told is) accepted) ended refused) (λ no. no)

-- ---- the program ran

module _ (program : Program) (arguments : List (List ℕ)) (budget : ℕ) (before now : SinkState) (steps : ℕ) where
  abbrev Executed : Stop → Type 0
  Executed ended = Executes program arguments budget before now ended steps

  -- a run that didn't come to its end was ended early
  cut_is_early : (ended : Stop)
      → IsPartOfRun program arguments budget before now ended steps ⊎ IsUnbegun before now ended steps → IsEarly ended
  cut_is_early ended (inl part) = left_is_early before now ended part.output
  cut_is_early ended (inr unbegun) = subst IsEarly (sym unbegun.stop_is) tt

  executed-run : (ended : Stop) → Executed ended → IsRunStop ended
      → IsRun program arguments budget before now ended steps
  executed-run ended (inl run_is) is = run_is
  executed-run ended (inr cut) is = absurd (early_runs_not ended (cut_is_early ended cut) is)

  executed-cut : (ended : Stop) → Executed ended → IsEarly ended
      → IsPartOfRun program arguments budget before now ended steps ⊎ IsUnbegun before now ended steps
  executed-cut ended (inl run_is) early = absurd (early_runs_not ended early (run_stop _ budget ended run_is.stop_is))
  executed-cut ended (inr cut) early = cut

  executed-refuses_not : (ended : Stop) → Executed ended → IsRefusal ended → ⊥
  executed-refuses_not ended (inl run_is) refusal = run_refuses_not ended (run_stop _ budget ended run_is.stop_is) refusal
  executed-refuses_not ended (inr cut) refusal = early_refuses_not ended (cut_is_early ended cut) refusal

  executed-no_usage : Executed stop.Usage → ⊥
  executed-no_usage (inl run_is) = run_stop _ budget stop.Usage run_is.stop_is
  executed-no_usage (inr cut) = cut_is_early stop.Usage cut

  executed-no_read_fault : Executed stop.ReadFault → ⊥
  executed-no_read_fault (inl run_is) = run_stop _ budget stop.ReadFault run_is.stop_is
  executed-no_read_fault (inr (inl part)) = no_read_fault part.output
    where
      no_read_fault : LeavesOutput before now stop.ReadFault → ⊥
      no_read_fault (inl (refuses, flushes)) = refuses
      no_read_fault (inr (same, once)) = cc
  executed-no_read_fault (inr (inr unbegun)) = let same = unbegun.stop_is in cc

  executed-stop : (ended : Stop) → Executed ended
      → (stop_of (ending (run program arguments budget [])) budget ≡ Some ended) ⊎ IsEarly ended
  executed-stop ended (inl run_is) = inl run_is.stop_is
  executed-stop ended (inr cut) = inr (cut_is_early ended cut)

  -- the count of faults of the output, by what it refused last
  refused-faults : (ended : Stop) → RefusesLast before now ended
      → RisesFor stop.WriteFault ended before.faults now.faults
  refused-faults stop.WriteFault refuses = record { rose = λ _. refuses.0; stands = λ no. absurd (no refl) }
  refused-faults stop.OutOfMemory refuses = record { rose = λ is. cc; stands = λ _. refuses.0 }
  refused-faults stop.Done refuses = absurd refuses
  refused-faults (stop.Uncaught number message) refuses = absurd refuses
  refused-faults stop.Usage refuses = absurd refuses
  refused-faults (stop.Refused why) refuses = absurd refuses
  refused-faults (stop.StepsSpent budget) refuses = absurd refuses
  refused-faults (stop.Full what) refuses = absurd refuses
  refused-faults stop.ReadFault refuses = absurd refuses

  executed-faults : (ended : Stop) → Executed ended → RisesFor stop.WriteFault ended before.faults now.faults
  executed-faults ended (inl run_is) = record {
    rose = λ is. absurd (subst IsRunStop is (run_stop _ budget ended run_is.stop_is));
    stands = λ _. run_is.output.faults;
  }
  executed-faults ended (inr (inl part)) = by_output part.output
    where
      by_output : LeavesOutput before now ended → RisesFor stop.WriteFault ended before.faults now.faults
      by_output (inl (refuses, flushes)) = refused-faults ended refuses
      by_output (inr (same, once)) = record { rose = λ is. cc; stands = λ _. once.faults }
  executed-faults ended (inr (inr unbegun)) = record {
    rose = λ is. let same = unbegun.stop_is in cc;
    stands = λ _. ap (λ (sink : SinkState). sink.faults) unbegun.out;
  }

module _ (words : List (List ℕ)) (before now : Outside) (asked : Command) (is : command words ≡ Some asked)
    (names : StartsAtMost before.files now.files asked.file) where
  -- the command is the one that was asked for
  of_asked : (P : Command → Type 0) → P asked → (other : Command) → command words ≡ Some other → P other
  of_asked P p other other_is = subst P (same_command words asked other is other_is) p

  -- and so is what the files tell of its file
  told_of_asked : (other : Command) (source : List ℕ) → command words ≡ Some other
      → before.files.bytes_of other.file ≡ Some source → before.files.bytes_of asked.file ≡ Some source
  told_of_asked other source other_is told = subst (λ a. before.files.bytes_of a.file ≡ Some source) (sym (same_command words asked other is other_is)) told

  pub obeys-refused : {T : Type 0} (ended : Stop) → now.out ≡ before.out → RefusesFile before.files asked.file ended
      → Counts {T = T} stop.ReadFault before.files.faults now.files.faults (Err ended)
      → Obeys words before now None ended 0
  obeys-refused {T} ended same refused counts =
      let Refuses : Stop → Type 0 = RefusesFile before.files asked.file in
      let nothing : PrintsNothing words before now ended 0 = record { out = same; no_step = refl } in
      record {
        words_are = record {
          exactly = (λ usage. absurd (subst Refuses usage refused), λ none. cc);
          files = λ usage. absurd (subst Refuses usage refused);
          nothing = λ _. nothing;
        };
        source_is = record {
          names = of_asked (λ a. StartsAtMost before.files now.files a.file) names;
          refused = λ _. nothing;
          read_fault = λ _. nothing;
        };
        run_is = λ run_stop. absurd (refused-runs_not before.files asked.file ended refused run_stop);
        early_end = record { write_fault = λ fault. absurd (subst Refuses fault refused); out_of_memory = λ _. inl nothing };
        causes = record {
          read_fault = record {
            rose = λ is. counts.rose (ap Err is);
            stands = λ no. counts.stands (λ is. no (let same : ended ≡ stop.ReadFault = cc in same));
          };
          write_fault = record {
            rose = λ fault. absurd (subst Refuses fault refused);
            stands = λ _. ap (λ (sink : SinkState). sink.faults) same;
          };
          refused = λ why e. (asked, is, subst Refuses e refused);
        };
        complete = record {
          lacking = of_asked (λ a. before.files.lacks a.file ≡ true → IsEarly ended)
              (lacking-early before.files asked.file ended refused);
          too_long = λ other source other_is told long.
              long-refused before.files asked.file ended source refused (told_of_asked other source other_is told) long;
          lexical = λ other source kind at other_is told few fault.
              lexical-refused before.files asked.file ended source kind at refused (told_of_asked other source other_is told) few fault;
          refused = λ other source other_is told unaccepted.
              unaccepted-refused before.files asked.file ended refused;
          accepted = λ other source program other_is told accepted.
              inr (accepted-early before.files asked.file ended source program refused (told_of_asked other source other_is told) accepted);
        };
        program_is = λ run_stop. absurd (refused-runs_not before.files asked.file ended refused run_stop);
      }

  module _ (program : Program) (ended : Stop) (steps : ℕ) (has : HasProgram before.files asked.file program)
      (unfailed : now.files.faults ≡ before.files.faults)
      (executes : Executes program (arguments_of asked) asked.steps before.out now.out ended steps) where
    abbrev Ends : Stop → Type 0
    Ends s = Executes program (arguments_of asked) asked.steps before.out now.out s steps

    runs_whole : IsRunStop ended → RunsWhole words before now ended steps program
    runs_whole is_run = record {
      asked = asked;
      command_is = is;
      has = has;
      run_is = executed-run program (arguments_of asked) asked.steps before.out now.out steps ended executes is_run;
    }

    runs_in_part : IsPartOfRun program (arguments_of asked) asked.steps before.out now.out ended steps
        → RunsInPart words before now ended steps
    runs_in_part part = record { asked = asked; command_is = is; program = program; has = has; part = part }

    cut : (s : Stop) → ended ≡ s → IsEarly s
        → IsPartOfRun program (arguments_of asked) asked.steps before.out now.out ended steps ⊎ IsUnbegun before.out now.out ended steps
    cut s same early = executed-cut program (arguments_of asked) asked.steps before.out now.out steps ended executes (subst IsEarly (sym same) early)

    fails_in_part : ended ≡ stop.WriteFault
        → IsPartOfRun program (arguments_of asked) asked.steps before.out now.out ended steps ⊎ IsUnbegun before.out now.out ended steps
        → RunsInPart words before now ended steps
    fails_in_part fault (inl part) = runs_in_part part
    fails_in_part fault (inr unbegun) = let same = unbegun.stop_is in cc

    nothing_or_part : IsPartOfRun program (arguments_of asked) asked.steps before.out now.out ended steps ⊎ IsUnbegun before.out now.out ended steps
        → PrintsNothing words before now ended steps ⊎ RunsInPart words before now ended steps
    nothing_or_part (inl part) = inr (runs_in_part part)
    nothing_or_part (inr unbegun) = inl (record { out = unbegun.out; no_step = unbegun.no_step })

    no_usage : ended ≡ stop.Usage → ⊥
    no_usage usage = executed-no_usage program (arguments_of asked) asked.steps before.out now.out steps (subst Ends usage executes)

    no_read_fault : ended ≡ stop.ReadFault → ⊥
    no_read_fault fault = executed-no_read_fault program (arguments_of asked) asked.steps before.out now.out steps (subst Ends fault executes)

    no_refusal : (why : SourceRefusal) → ended ≡ stop.Refused why → ⊥
    no_refusal why e = executed-refuses_not program (arguments_of asked) asked.steps before.out now.out steps (stop.Refused why) (subst Ends e executes) tt

    -- the source that was read is the one that is told
    told_source : (other : Command) (source : List ℕ) → command words ≡ Some other
        → before.files.bytes_of other.file ≡ Some source → has.source ≡ source
    told_source other source other_is told = told_is (before.files.bytes_of asked.file) has.source source has.told (told_of_asked other source other_is told)

    accepted_told : (other : Command) (source : List ℕ) → command words ≡ Some other
        → before.files.bytes_of other.file ≡ Some source → Accepted source program
    accepted_told other source other_is told = subst (λ s. Accepted s program) (told_source other source other_is told) has.accepted

    -- the stop is that of the one program of the source
    stop_as_told : (other : Command) (source : List ℕ) (q : Program) → command words ≡ Some other
        → before.files.bytes_of other.file ≡ Some source → Accepted source q
        → (stop_of (ending (run q (arguments_of other) other.steps [])) other.steps ≡ Some ended) ⊎ IsEarly ended
    stop_as_told other source q other_is told accepted =
        let one : q ≡ program = has.only q (subst (λ s. Accepted s q) (sym (told_source other source other_is told)) accepted) in
        subst (λ a. (stop_of (ending (run q (arguments_of a) a.steps [])) a.steps ≡ Some ended) ⊎ IsEarly ended) (same_command words asked other is other_is)
        (subst (λ p. (stop_of (ending (run p (arguments_of asked) asked.steps [])) asked.steps ≡ Some ended) ⊎ IsEarly ended) (sym one)
        (executed-stop program (arguments_of asked) asked.steps before.out now.out steps ended executes))

    pub obeys-run : Obeys words before now (Some program) ended steps
    obeys-run = record {
      words_are = record {
        exactly = (λ usage. absurd (no_usage usage), λ none. cc);
        files = λ usage. absurd (no_usage usage);
        nothing = λ usage. absurd (no_usage usage);
      };
      source_is = record {
        names = of_asked (λ a. StartsAtMost before.files now.files a.file) names;
        refused = λ refusal. absurd (executed-refuses_not program (arguments_of asked) asked.steps before.out now.out steps ended executes refusal);
        read_fault = λ fault. absurd (no_read_fault fault);
      };
      run_is = λ is_run. (program, runs_whole is_run);
      early_end = record {
        write_fault = λ fault. fails_in_part fault (cut stop.WriteFault fault tt);
        out_of_memory = λ e. nothing_or_part (cut stop.OutOfMemory e tt);
      };
      causes = record {
        read_fault = record { rose = λ fault. absurd (no_read_fault fault); stands = λ _. unfailed };
        write_fault = executed-faults program (arguments_of asked) asked.steps before.out now.out steps ended executes;
        refused = λ why e. absurd (no_refusal why e);
      };
      complete = record {
        lacking = of_asked (λ a. before.files.lacks a.file ≡ true → IsEarly ended) (λ lacks. let there = has.there in cc);
        too_long = λ other source other_is told long.
            absurd (omega (arith, has.accepted.few, ap length (told_source other source other_is told)));
        lexical = λ other source kind at other_is told few fault.
            absurd (accepted_faultless source program kind at (accepted_told other source other_is told) fault);
        refused = λ other source other_is told unaccepted. absurd (unaccepted program (accepted_told other source other_is told));
        accepted = stop_as_told;
      };
      program_is = runs_whole;
    }
