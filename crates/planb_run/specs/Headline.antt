-- The headline: for every source, arguments and budget, the bytes printed, the status and the report are those of the
-- reference evaluation. The clauses of the call `planb` are the records below that a clause's name stands before. Each
-- speaks of the words, of what the outside means before and after the call, and of the ending.
use Rattle.std.specs.Prelude.{◌≡◌, ◌⊎◌, ◌↔◌, ℕ, ◌+◌, ◌<◌, ◌≤◌, false, true, List, [], length, map, Option, Some, None, MatchOption, IfSome}
use Rattle.std.specs.Str.{chars}
use Rattle.pb_io.specs.declared.sink.PutError.TheVariants as put
use Rattle.pb_io.specs.Faults.{raised, Rose}
use Rattle.pb_io.specs.Sink.{SinkState, with_bytes, AppendsPrefix, IsFlushed}
use Rattle.pb_io.specs.Files.{FilesState, with_name}
use Rattle.java_tokens.specs.Faults.{HasFault}
use Rattle.java_source.specs.declared.refusal.SourceRefusal.{SourceRefusal}
use Rattle.java_source.specs.declared.refusal.SourceRefusal.TheVariants.{TooLong, Lexical}
use Rattle.java_source.specs.declared.refusal.TokenKindError.{TokenKindError}
use Rattle.java_source.specs.Accepted.{Accepted, IsOnlyProgram, most_bytes}
use Rattle.java_source.specs.Refused.{RefusesFor, lexical_error}
use Rattle.core_tree.specs.declared.program.Program.{Program}
use Rattle.evaluation.specs.World.{Answer}
use Rattle.evaluation.specs.Run.{run, ending, Ending as RunEnding}
use Rattle.interpreter.specs.Machine.{Refuses}
use Rattle.planb_run.specs.declared.ending.Ending.{Ending}
use Rattle.planb_run.specs.declared.ending.Stop.{Stop}
use Rattle.planb_run.specs.declared.ending.Stop.TheVariants as stop
use Rattle.planb_run.specs.declared.ending.Reported.{Reported}
use Rattle.planb_run.specs.declared.ending.Reported.TheVariants as reported
use Rattle.planb_run.specs.Command.{Command, command}
use Rattle.planb_run.specs.Report.{report, status}

-- what the files and the output mean at one moment
pub record Outside : Type 0 where
  pub files : FilesState
  pub out : SinkState

-- ---- stops

-- the stop of a run that ends so with this budget; no run of an accepted source is stuck
abbrev pub stop_of : RunEnding → ℕ → Option Stop
stop_of RunEnding.Done budget = Some stop.Done
stop_of (RunEnding.Uncaught number message) budget = Some (stop.Uncaught number message)
stop_of RunEnding.StepsSpent budget = Some (stop.StepsSpent budget)
stop_of (RunEnding.Full what) budget = Some (stop.Full what)
stop_of RunEnding.Stuck budget = None

-- a run of the program came to its end
abbrev pub IsRunStop : Stop → Type 0
IsRunStop stop.Done = Unit {0}
IsRunStop (stop.Uncaught number message) = Unit {0}
IsRunStop (stop.StepsSpent budget) = Unit {0}
IsRunStop (stop.Full what) = Unit {0}
IsRunStop _ = ⊥

-- the source was refused
abbrev pub IsRefusal : Stop → Type 0
IsRefusal (stop.Refused why) = Unit {0}
IsRefusal _ = ⊥

-- memory ran out, or the outside failed: these may come in place of any other stop
abbrev pub IsEarly : Stop → Type 0
IsEarly stop.OutOfMemory = Unit {0}
IsEarly stop.ReadFault = Unit {0}
IsEarly stop.WriteFault = Unit {0}
IsEarly _ = ⊥

-- the count of refused calls rose by one where this is how it ended, and stands where it ended otherwise
pub record RisesFor {E : Type 0} (cause ended : E) (before now : ℕ) : Type 0 where
  pub rose : ended ≡ cause → Rose before now
  pub stands : ¬ (ended ≡ cause) → now ≡ before

-- ---- the output of a run

-- it was flushed at most once
abbrev pub FlushesAtMostOnce : SinkState → SinkState → Type 0
FlushesAtMostOnce before now = (now.flushes ≡ before.flushes) ⊎ (now.flushes ≡ raised before.flushes)

-- it was flushed once, to the end, and refused no call
pub record FlushesOnce (before now : SinkState) : Type 0 where
  pub flushed : IsFlushed now
  pub flushes : now.flushes ≡ raised before.flushes
  pub faults : now.faults ≡ before.faults
  pub wants : now.wants ≡ before.wants

-- it refused its last call and no call before it, and this is the stop for that
abbrev pub RefusesLast : SinkState → SinkState → Stop → Type 0
RefusesLast before now stop.WriteFault = Refuses put.WriteFault before now
RefusesLast before now stop.OutOfMemory = Refuses put.OutOfMemory before now
RefusesLast before now _ = ⊥

-- what a run that was cut short did to it: it refused its last call; or memory ran out elsewhere, and it was flushed
abbrev pub LeavesOutput : SinkState → SinkState → Stop → Type 0
LeavesOutput before now ended =
    (RefusesLast before now ended × FlushesAtMostOnce before now)
    ⊎ ((ended ≡ stop.OutOfMemory) × FlushesOnce before now)

-- ---- runs

module _ (program : Program) (arguments : List (List ℕ)) (budget : ℕ) (before now : SinkState) where
  -- the whole reference run of a program with these arguments and this budget
  abbrev pub whole : Answer
  whole = run program arguments budget []

  -- it has this stop, its output was appended and flushed, and these are its steps
  pub record IsRun (ended : Stop) (steps : ℕ) : Type 0 where
    pub stop_is : stop_of (ending whole) budget ≡ Some ended
    pub fuel : whole.world.fuel + steps ≡ budget
    pub written : now.written ≡ with_bytes before.written whole.out
    pub output : FlushesOnce before now
    -- where the steps were spent, all of them were taken
    pub spent : (n : ℕ) → ended ≡ stop.StepsSpent n → steps ≡ n

  -- a run that was cut short by this stop: a prefix was appended of what a run with just the steps taken prints
  pub record IsPartOfRun (ended : Stop) (steps : ℕ) : Type 0 where
    pub within : steps ≤ budget
    pub part : AppendsPrefix before now (run program arguments steps []).out
    pub output : LeavesOutput before now ended

-- ---- sources

-- the file is there, as far as the files tell, and its bytes, where they are told, are a source with this program and
-- no other
pub record HasProgram (files : FilesState) (file : List ℕ) (program : Program) : Type 0 where
  pub there : files.lacks file ≡ false
  pub source : List ℕ
  pub told : IfSome (files.bytes_of file) (λ bytes. source ≡ bytes)
  pub accepted : Accepted source program
  pub only : IsOnlyProgram source program

-- no program makes this a source that is accepted
abbrev pub IsUnaccepted : List ℕ → Type 0
IsUnaccepted source = (program : Program) → Accepted source program → ⊥

-- the file is there, and its bytes, where they are told, are refused for this
pub record IsRefusedFor (files : FilesState) (file : List ℕ) (why : SourceRefusal) : Type 0 where
  pub there : files.lacks file ≡ false
  pub source : List ℕ
  pub told : IfSome (files.bytes_of file) (λ bytes. source ≡ bytes)
  pub refused : RefusesFor source why

-- the file was started once and no other was, or none was
abbrev pub StartsAtMost : FilesState → FilesState → List ℕ → Type 0
StartsAtMost before now file = (now.started ≡ before.started) ⊎ (now.started ≡ with_name before.started file)

-- the texts of a program's arguments
abbrev pub arguments_of : Command → List (List ℕ)
arguments_of asked = map chars asked.arguments

-- ---- the clauses

module _ (words : List (List ℕ)) (before now : Outside) (ended : Stop) (steps : ℕ) where
  -- nothing at all was done to the output, and no step was taken
  pub record PrintsNothing : Type 0 where
    pub out : now.out ≡ before.out
    pub no_step : steps ≡ 0

  -- `words`: usage comes exactly where the words aren't a command; then nothing was done to the files and the output
  pub record RefusesWords : Type 0 where
    pub exactly : (ended ≡ stop.Usage) ↔ (command words ≡ None)
    pub files : ended ≡ stop.Usage → now.files ≡ before.files
    pub nothing : ended ≡ stop.Usage → PrintsNothing

  -- `source`: no name but the command's file is started; after a refusal and a read fault the output is as it was
  pub record ReadsSource : Type 0 where
    pub names : (asked : Command) → command words ≡ Some asked → StartsAtMost before.files now.files asked.file
    pub refused : IsRefusal ended → PrintsNothing
    pub read_fault : ended ≡ stop.ReadFault → PrintsNothing

  -- the command's source has this program, and this is its whole run with the command's arguments and budget
  pub record RunsWhole (program : Program) : Type 0 where
    pub asked : Command
    pub command_is : command words ≡ Some asked
    pub has : HasProgram before.files asked.file program
    pub run_is : IsRun program (arguments_of asked) asked.steps before.out now.out ended steps

  -- `run`: where the run came to its end, output, ending and steps are those of the reference run
  abbrev pub RunsAsReference : Type 0
  RunsAsReference = IsRunStop ended → (program : Program) × RunsWhole program

  -- the command's source is accepted, and its run was cut short
  pub record RunsInPart : Type 0 where
    pub asked : Command
    pub command_is : command words ≡ Some asked
    pub program : Program
    pub has : HasProgram before.files asked.file program
    pub part : IsPartOfRun program (arguments_of asked) asked.steps before.out now.out ended steps

  -- `early_end`: where the output failed, the run was cut short; where memory ran out, it was, or hadn't begun
  pub record EndsEarly : Type 0 where
    pub write_fault : ended ≡ stop.WriteFault → RunsInPart
    pub out_of_memory : ended ≡ stop.OutOfMemory → PrintsNothing ⊎ RunsInPart

  -- the file that the words ask for is one that P says of
  abbrev pub OfTheFile : (List ℕ → Type 0) → Type 0
  OfTheFile P = (asked : Command) × (command words ≡ Some asked) × P asked.file

  -- `causes`: each stop has its cause, and each fault its stop
  pub record HasCauses : Type 0 where
    pub read_fault : RisesFor stop.ReadFault ended before.files.faults now.files.faults
    pub write_fault : RisesFor stop.WriteFault ended before.out.faults now.out.faults
    pub refused : (why : SourceRefusal) → ended ≡ stop.Refused why
        → OfTheFile (λ file. IsRefusedFor before.files file why)

  -- `complete`: a stop other than an early one is determined by the file, as far as the files tell it
  pub record IsComplete : Type 0 where
    pub lacking : (asked : Command) → command words ≡ Some asked
        → before.files.lacks asked.file ≡ true → IsEarly ended
    pub too_long : (asked : Command) (source : List ℕ) → command words ≡ Some asked
        → before.files.bytes_of asked.file ≡ Some source → most_bytes < length source
        → (ended ≡ stop.Refused TooLong) ⊎ IsEarly ended
    pub lexical : (asked : Command) (source : List ℕ) (kind : TokenKindError) (at : ℕ) → command words ≡ Some asked
        → before.files.bytes_of asked.file ≡ Some source → length source ≤ most_bytes
        → HasFault source (lexical_error kind at)
        → (ended ≡ stop.Refused (Lexical kind at)) ⊎ IsEarly ended
    pub refused : (asked : Command) (source : List ℕ) → command words ≡ Some asked
        → before.files.bytes_of asked.file ≡ Some source → IsUnaccepted source
        → IsRefusal ended ⊎ IsEarly ended
    pub accepted : (asked : Command) (source : List ℕ) (program : Program) → command words ≡ Some asked
        → before.files.bytes_of asked.file ≡ Some source → Accepted source program
        → (stop_of (ending (run program (arguments_of asked) asked.steps [])) asked.steps ≡ Some ended)
        ⊎ IsEarly ended

  -- where a run came to its end, this is the program that ran
  abbrev pub IsProgramOfRun : Option Program → Type 0
  IsProgramOfRun program = IsRunStop ended → MatchOption program ⊥ RunsWhole

-- a text was written whole and flushed once, or a prefix of it was written; each error has its cause, and each cause
-- its error
pub record Tells (before now : SinkState) (text : List ℕ) (told : Reported) : Type 0 where
  pub whole : told ≡ reported.Whole → now.written ≡ with_bytes before.written text
  pub flushed : told ≡ reported.Whole → FlushesOnce before now
  pub part : AppendsPrefix before now text
  pub flushes : FlushesAtMostOnce before now
  pub faults : RisesFor reported.WriteFault told before.faults now.faults
  pub wants : RisesFor reported.OutOfMemory told before.wants now.wants

-- `report`: the status is that of the stop, and the report that of the stop and of the program that ran
pub record TellsEnding (words : List (List ℕ)) (before now : Outside) (told_before told_now : SinkState)
    (call : Ending) : Type 0 where
  pub status_is : call.status ≡ status call.stop call.reported
  pub program : Option Program
  pub program_is : IsProgramOfRun words before now call.stop call.steps program
  pub report_is : Tells told_before told_now (report program call.stop) call.reported
