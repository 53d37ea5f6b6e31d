-- What callers see of the machine: how its runs end.
use Rattle.std.specs.Prelude.{◌≡◌, ◌⊎◌, ℕ, ◌+◌, ◌≤◌, Bool, true, false, IsTrue, nat_le, List, [], ◌∷◌, map, slice_get, Option, Some, None, Result, Ok, Err, String, string_bytes}
use Rattle.std.specs.Borrow.{Bor}
use Rattle.std.specs.Str.{chars}
use Rattle.pb_io.specs.declared.sink.PutError.{PutError}
use Rattle.pb_io.specs.declared.sink.PutError.TheVariants as put
use Rattle.pb_io.specs.Faults.{Rose}
use Rattle.pb_io.specs.Sink.{SinkState, with_bytes, AppendsPrefix, NoFewer}
use Rattle.core_tree.specs.declared.what.What.{What}
use Rattle.core_tree.specs.declared.what.What.TheVariants as what
use Rattle.core_tree.specs.declared.stmt.Stmt.{Stmt}
use Rattle.core_tree.specs.declared.program.Method.{Method}
use Rattle.core_tree.specs.declared.program.Program.{Program}
use Rattle.heap_arena.specs.declared.error.MakeError.{MakeError}
use Rattle.heap_arena.specs.declared.error.MakeError.TheVariants as error
use Rattle.heap_arena.specs.declared.cell.Cell.TheVariants as value
use Rattle.heap_arena.specs.Heap.{Heap, cell_count, default_of, most_cells}
use Rattle.heap_arena.specs.State.{StoreState}
use Rattle.evaluation.specs.declared.outcome.Outcome.{Outcome}
use Rattle.evaluation.specs.declared.outcome.Outcome.TheVariants as outcome
use Rattle.evaluation.specs.World.{World, gives}
use Rattle.evaluation.specs.Run.{arguments_heap, ending, ending_of, has_short_arguments, run, run_main, Ending}
use Rattle.interpreter.specs.declared.frame.EarlyEnd.{EarlyEnd}
use Rattle.interpreter.specs.declared.frame.EarlyEnd.TheVariants as early
use Rattle.interpreter.specs.declared.frame.NormalFrame.TheVariants as normal
use Rattle.interpreter.specs.declared.frame.Frame.{Frame}
use Rattle.interpreter.specs.declared.frame.Frame.TheVariants as frame
use Rattle.interpreter.specs.declared.run.Beginning.{Beginning}
use Rattle.interpreter.specs.declared.stop.RunStop.{RunStop}
use Rattle.interpreter.specs.declared.stop.RunStop.TheVariants as how

-- the text of an argument
abbrev pub text_of : {A : Type 0} → String A → List ℕ
text_of argument = chars (string_bytes argument)

-- ---- stops

-- the ending that a stop tells, unless the run was ended early
abbrev pub told : RunStop → Option Ending
told how.Done = Some Ending.Done
told (how.Uncaught class message) = Some (Ending.Uncaught class message)
told how.StepsSpent = Some Ending.StepsSpent
told (how.Full what) = Some (Ending.Full what)
told how.OutOfMemory = None
told how.WriteFault = None

-- how a run ends whose sink refused a call with this error
abbrev pub refusal : PutError → RunStop
refusal put.WriteFault = how.WriteFault
refusal put.OutOfMemory = how.OutOfMemory

-- how a run ends whose machine stopped early
abbrev pub stopped : EarlyEnd → RunStop
stopped early.OutOfMemory = how.OutOfMemory
stopped (early.Refused error) = refusal error

-- the stop of a run with this ending, or none where it was stuck; memory may run out while a message is copied
abbrev pub TellsEnd : Ending → Option RunStop → Type 0
TellsEnd end None = end ≡ Ending.Stuck
TellsEnd end (Some stop) = (stop ≡ how.OutOfMemory) ⊎ (told stop ≡ Some end)

-- whether a call of the sink ended the run
abbrev pub is_refused : Result Outcome EarlyEnd → Bool
is_refused (Err (early.Refused error)) = true
is_refused _ = false

-- the stop of a run that ended so in this heap
abbrev pub Tells : Heap → Result Outcome EarlyEnd → Option RunStop → Type 0
Tells h (Ok o) stop = TellsEnd (ending_of h o) stop
Tells h (Err end) stop = stop ≡ Some (stopped end)

-- how a run ends whose arguments were not made
abbrev pub unmade : MakeError → RunStop
unmade error.Full = how.Full what.Cells
unmade error.OutOfMemory = how.OutOfMemory

-- the program came to its end
abbrev pub Finishes : RunStop → Type 0
Finishes how.Done = Unit {0}
Finishes (how.Uncaught class message) = Unit {0}
Finishes _ = ⊥

-- ---- beginnings

-- the one frame goes on with these statements
abbrev pub IsRest : List Stmt → List Frame → Type 0
IsRest ss frames = (rest : Bor (List Stmt)) × (frames ≡ frame.Normal (normal.Rest rest) ∷ []) × (rest.now ≡ ss)

-- what a method begins with whose first argument is the first object: its body's frame, and its locals
pub record IsFirst (main : Method) (beginning : Beginning) : Type 0 where
  pub frames : IsRest main.body beginning.frames
  pub locals : beginning.locals ≡ value.Ref 0 ∷ map default_of main.locals

-- the method that runs
abbrev pub IsMain : Program → Method → Type 0
IsMain p main = slice_get p.methods p.main ≡ Some main

-- the arguments are made, and `main` begins
pub record IsBegun (main : Method) (args : List (List ℕ)) (now : Heap) (beginning : Beginning) : Type 0 where
  pub first : IsFirst main beginning
  pub now_is : now ≡ arguments_heap args
  pub short : has_short_arguments args ≡ true
  pub fits : nat_le (cell_count (arguments_heap args)) most_cells ≡ true

-- a run with these arguments ends before its first step
abbrev pub IsFullOf : What → List (List ℕ) → Type 0
IsFullOf what args =
    (p : Program) (w : World) → w.now ≡ arguments_heap args → run_main p args w ≡ gives (outcome.Full what) w

-- memory ran out, or no run begins with these arguments
abbrev pub IsRefused : List (List ℕ) → RunStop → Type 0
IsRefused args stop =
    (stop ≡ how.OutOfMemory)
    ⊎ ((what : What) × (stop ≡ how.Full what) × IsFullOf what args)

abbrev pub BeginsAs : Method → List (List ℕ) → Heap → Result Beginning RunStop → Type 0
BeginsAs main args now (Ok beginning) = IsBegun main args now beginning
BeginsAs main args now (Err stop) = IsRefused args stop

-- ---- runs

-- the run with this budget ended so, its output was appended, and that many steps were taken
pub record EndsWhole (p : Program) (args : List (List ℕ)) (budget : ℕ) (end : Ending)
    (before now : SinkState) (taken : ℕ) : Type 0 where
  pub ending_is : ending (run p args budget []) ≡ end
  pub journal : (run p args budget []).world.journal ≡ []
  pub written : now.written ≡ with_bytes before.written (run p args budget []).out
  pub fuel : (run p args budget []).world.fuel + taken ≡ budget
  -- a run with just the steps that were taken prints the same
  pub same : (run p args taken []).out ≡ (run p args budget []).out

-- how the machine ended: as the run did, or early, with a prefix of what the run with the steps taken prints
abbrev pub EndsBy : Program → List (List ℕ) → ℕ → SinkState → SinkState → ℕ → Option Ending → Type 0
EndsBy p args budget before now taken (Some end) = EndsWhole p args budget end before now taken
EndsBy p args budget before now taken None = AppendsPrefix before now (run p args taken []).out

-- the same, by the stop; with none the run was stuck
abbrev pub EndsAs : Program → List (List ℕ) → ℕ → SinkState → SinkState → ℕ → RunStop → Type 0
EndsAs p args budget before now taken stop = EndsBy p args budget before now taken (told stop)

abbrev pub EndsIf : Program → List (List ℕ) → ℕ → SinkState → SinkState → ℕ → Option RunStop → Type 0
EndsIf p args budget before now taken None = ending (run p args budget []) ≡ Ending.Stuck
EndsIf p args budget before now taken (Some stop) = EndsAs p args budget before now taken stop

abbrev pub FinishesIf : Option RunStop → Type 0
FinishesIf None = ⊥
FinishesIf (Some stop) = Finishes stop

-- the last call of the sink was refused with this error, and no call before it
abbrev pub Refuses : PutError → SinkState → SinkState → Type 0
Refuses put.WriteFault before now = Rose before.faults now.faults × (now.wants ≡ before.wants)
Refuses put.OutOfMemory before now = (now.faults ≡ before.faults) × Rose before.wants now.wants

-- a whole run of the machine: how it ended, what it left of the store, the steps that it took, and what it did to the
-- sink
pub record EndsRun (p : Program) (args : List (List ℕ)) (budget : ℕ) (before after : SinkState)
    (store : StoreState) (taken : ℕ) (refused : Bool) (stop : Option RunStop) : Type 0 where
  pub ends : EndsIf p args budget before after taken stop
  pub within : taken ≤ budget
  pub heap : FinishesIf stop → store.now ≡ (run p args budget []).world.now
  pub marks_are : FinishesIf stop → store.marks ≡ []
  -- nothing was flushed
  pub flushed : NoFewer before.flushed after.flushed
  pub flushes : after.flushes ≡ before.flushes
  -- no call of the sink was refused, or only the last one, with the error that the stop tells
  pub stands : refused ≡ false → (after.faults ≡ before.faults) × (after.wants ≡ before.wants)
  pub refusal_is : IsTrue refused → (error : PutError) × (stop ≡ Some (refusal error)) × Refuses error before after
  pub cause : stop ≡ Some how.WriteFault → IsTrue refused
  pub later : before.faults ≤ after.faults
