-- What the stages of the top call do. These definitions are internal: the headline's clauses follow from them.
use Rattle.std.specs.Prelude.{◌≡◌, ◌⊎◌, ℕ, List, Option}
use Rattle.pb_io.specs.Faults.{raised}
use Rattle.pb_io.specs.Sink.{SinkState}
use Rattle.pb_io.specs.Files.{FilesState}
use Rattle.core_tree.specs.declared.program.Program.{Program}
use Rattle.planb_run.specs.declared.ending.Stop.{Stop}
use Rattle.planb_run.specs.declared.ending.Stop.TheVariants as stop
use Rattle.planb_run.specs.Headline.{Outside, IsRun, IsPartOfRun, IsRefusedFor, FlushesOnce, RefusesLast, RefusesWords, ReadsSource, RunsAsReference, EndsEarly, HasCauses, IsComplete, IsProgramOfRun}

-- the clauses of the headline but for the report, and the program that the report is to speak of
pub record Obeys (words : List (List ℕ)) (before now : Outside) (program : Option Program)
    (ended : Stop) (steps : ℕ) : Type 0 where
  pub words_are : RefusesWords words before now ended steps
  pub source_is : ReadsSource words before now ended steps
  pub run_is : RunsAsReference words before now ended steps
  pub early_end : EndsEarly words before now ended steps
  pub causes : HasCauses words before now ended steps
  pub complete : IsComplete words before now ended steps
  pub program_is : IsProgramOfRun words before now ended steps program

-- why a file gave no program
abbrev pub RefusesFile : FilesState → List ℕ → Stop → Type 0
RefusesFile before file stop.ReadFault = Unit {0}
RefusesFile before file (stop.Refused why) = IsRefusedFor before file why
RefusesFile before file stop.OutOfMemory = Unit {0}
RefusesFile before file _ = ⊥

-- there was no memory to begin a run
pub record IsUnbegun (before now : SinkState) (ended : Stop) (steps : ℕ) : Type 0 where
  pub stop_is : ended ≡ stop.OutOfMemory
  pub out : now ≡ before
  pub no_step : steps ≡ 0

-- how a run and the flush after it ended
abbrev pub Executes : Program → List (List ℕ) → ℕ → SinkState → SinkState → Stop → ℕ → Type 0
Executes program arguments budget before now ended steps =
    IsRun program arguments budget before now ended steps
    ⊎ IsPartOfRun program arguments budget before now ended steps
    ⊎ IsUnbegun before now ended steps

-- what a flush makes of a stop: it stays, and all is flushed, or it gives way to that of the error of the flush
pub record Flushes (before now : SinkState) (ended flushed : Stop) : Type 0 where
  pub written : now.written ≡ before.written
  pub flushes : now.flushes ≡ raised before.flushes
  pub stop_is : ((flushed ≡ ended) × FlushesOnce before now) ⊎ RefusesLast before now flushed
