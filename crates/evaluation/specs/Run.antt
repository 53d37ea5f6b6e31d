-- The run of a program.
use Rattle.std.specs.Prelude.{ℕ, Bool, nat_le, not, List, [], ◌∷◌, map, Option, Some, None, slice_get, if◌then◌else◌}
use Rattle.std.specs.Option.{option_map_or}
use Rattle.std.specs.List.{list_all}
use Rattle.core_tree.specs.Text.{code_units}
use Rattle.core_tree.specs.declared.ty.Ty.TheVariants as ty
use Rattle.core_tree.specs.declared.what.What.{What}
use Rattle.core_tree.specs.declared.what.What.TheVariants as what
use Rattle.core_tree.specs.declared.program.Method.{Method}
use Rattle.core_tree.specs.declared.program.Program.{Program}
use Rattle.heap_arena.specs.declared.cell.Cell.TheVariants as value
use Rattle.heap_arena.specs.declared.kind.Kind.TheVariants as kind
use Rattle.heap_arena.specs.Heap.{Heap, Value, default_of, cell_count, most_cells, cell_at, class_at}
use Rattle.relation_bounds.specs.declared.journal.Entry.{Entry}
use Rattle.evaluation.specs.declared.outcome.Outcome.{Outcome}
use Rattle.evaluation.specs.declared.outcome.Outcome.TheVariants as outcome
use Rattle.evaluation.specs.World.{World, Answer, Run, gives}
use Rattle.evaluation.specs.Values.{most_units}
use Rattle.evaluation.specs.Objects.{message_place}
use Rattle.evaluation.specs.Calls.{block}
use Rattle.evaluation.specs.Execute.{meaning}

-- the heap at the beginning: the array of the program's arguments alone
abbrev pub arguments_heap : List (List ℕ) → Heap
arguments_heap args = record { kind = kind.Array ty.Text; cells = map value.Text args } ∷ []

-- the world in which the body of main begins: one call is live
abbrev pub first_world : Method → List (List ℕ) → ℕ → List Entry → World
first_world main args steps journal = record {
  this = None;
  locals = value.Ref 0 ∷ map default_of main.locals;
  now = arguments_heap args;
  live = 1;
  fuel = steps;
  journal = journal;
}

-- no argument has too many code units
abbrev pub has_short_arguments : List (List ℕ) → Bool
has_short_arguments args = list_all (λ a. nat_le (code_units a) most_units) args

-- the run of main, where its arguments fit
abbrev pub run_main : Program → List (List ℕ) → Run
run_main p args w =
    if not (has_short_arguments args) then gives (outcome.Full what.Text) w
    else if not (nat_le (cell_count w.now) most_cells) then gives (outcome.Full what.Cells) w
    else option_map_or (λ main. block p (meaning p w.fuel) main.body w) (slice_get p.methods p.main) (gives outcome.Stuck w)

-- the run of a program with these arguments, that many steps, and these answers to come
abbrev pub run : Program → List (List ℕ) → ℕ → List Entry → Answer
run p args steps journal =
    option_map_or (λ main. run_main p args (first_world main args steps journal)) (slice_get p.methods p.main)
    (gives outcome.Stuck (record { this = None; locals = []; now = []; live = 0; fuel = steps; journal = journal }))

-- how a run ends
pub data Ending : Type 0 where
  Done : Ending
  -- an exception that nothing caught: its class, and its message where it has one
  Uncaught : ℕ → Option (List ℕ) → Ending
  StepsSpent : Ending
  Full : What → Ending
  -- what no run of a well-typed program ends with
  Stuck : Ending

-- the text in a message field
abbrev pub message_of : Option Value → Option (List ℕ)
message_of (Some (value.Text t)) = Some t
message_of _ = None

abbrev pub uncaught : Heap → ℕ → Ending
uncaught h o = option_map_or (λ c. Ending.Uncaught c (message_of (cell_at h o message_place))) (class_at h o) Ending.Stuck

-- the ending of a run that left this heap
abbrev pub ending_of : Heap → Outcome → Ending
ending_of h outcome.Normal = Ending.Done
ending_of h (outcome.Return v) = Ending.Done
ending_of h (outcome.Throw o) = uncaught h o
ending_of h outcome.Spent = Ending.StepsSpent
ending_of h (outcome.Full what) = Ending.Full what
ending_of h _ = Ending.Stuck

abbrev pub ending : Answer → Ending
ending a = ending_of a.world.now a.outcome
