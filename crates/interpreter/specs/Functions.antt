-- Internal: what functions of the machine do, beside what the reference evaluation has names for.
use Rattle.std.specs.Prelude.{ℕ, Bool, true, List, [], length, slice_get, Option, Some, None}
use Rattle.core_tree.specs.declared.ty.Ty.{Ty}
use Rattle.core_tree.specs.declared.operator.UpOp.{UpOp}
use Rattle.core_tree.specs.declared.expr.Expr.{Expr}
use Rattle.core_tree.specs.declared.stmt.Stmt.{Stmt}
use Rattle.core_tree.specs.Typing.{chosen_number}
use Rattle.core_tree.specs.declared.program.Maker.{Maker}
use Rattle.core_tree.specs.declared.program.Program.{Program}
use Rattle.heap_arena.specs.declared.cell.Cell.TheVariants as value
use Rattle.heap_arena.specs.Heap.{Heap, Value, cell_at, default_of, class_at}
use Rattle.evaluation.specs.declared.outcome.Outcome.TheVariants as outcome
use Rattle.evaluation.specs.declared.place.Place.{Place}
use Rattle.evaluation.specs.declared.place.Place.TheVariants as location
use Rattle.evaluation.specs.World.{Run, gives, ◌>>=◌, ◌>>◌}
use Rattle.evaluation.specs.Values.{update_value}
use Rattle.evaluation.specs.Objects.{elements_at, value_fits, computed, write_local, write_cell, write_place, message_place}
use Rattle.evaluation.specs.Calls.{Parts, Loop, called, block, arguments, dispatch_in, build, construct, finished}
use Rattle.evaluation.specs.Evaluate.{choose}
use Rattle.evaluation.specs.Execute.{printed, prints, print_value, operand, turn}
use Rattle.std.specs.Option.{option_map_or}
use Rattle.interpreter.specs.declared.frame.LoopParts.{LoopParts}
use Rattle.interpreter.specs.Frames.{loop_of}

-- the value at a place
abbrev pub place_value : List Value → Heap → Place → Option Value
place_value locals now (location.Local at) = slice_get locals at
place_value locals now (location.Cell o at) = cell_at now o at

-- a value may be stored in a cell of the object: an array takes objects that fit its elements
abbrev pub may_store : Program → Heap → ℕ → Value → Bool
may_store p h o v = option_map_or (λ t. value_fits p h v t) (elements_at h o) true

-- a compound assignment whose operands are there
abbrev pub updated : Program → UpOp → Value → Place → Value → Run
updated p op old place v = computed p (update_value op old v) >>= (λ new. write_place p place new)

-- a compound assignment whose old value is there
abbrev pub updated_with : Program → Parts → UpOp → Value → Place → Option Expr → Run
updated_with p part op old place e = operand p part e >>= updated p op old place

-- a choice between two statements
abbrev pub chosen : Parts → Value → Stmt → Option Stmt → Run
chosen part x s other = choose x (part.stmt s) (option_map_or part.stmt other (gives outcome.Normal))

-- the updates of a loop and a further turn
abbrev pub next_turn : Program → Parts → Loop → Run
next_turn p part l = block p part l.updates >> part.loop l

-- a declaration of a local
abbrev pub declared : Parts → ℕ → Ty → Option Expr → Run
declared part at t e = option_map_or (λ e. part.expr e >>= write_local at) e (write_local at (default_of t))

-- a print
abbrev pub print_of : Parts → Bool → Option Expr → Run
print_of part line e = option_map_or (λ e. part.expr e >>= print_value line) e (prints (printed line []))

-- a `return`
abbrev pub return_of : Parts → Option Expr → Run
return_of part e =
    option_map_or (λ e. part.expr e >>= (λ v. gives (outcome.Return (Some v)))) e (gives (outcome.Return None))

-- the statements before the first turn of a loop, and then the loop
abbrev pub first_then : Program → Parts → List Stmt → LoopParts → Run
first_then p part first l = block p part first >> turn p part (loop_of l)

-- a call on the object at a position
abbrev pub dispatch_at : Program → Parts → ℕ → ℕ → List Value → Run
dispatch_at p part selector o args w =
    option_map_or (λ c. dispatch_in p part selector o args (chosen_number p c selector) w) (class_at w.now o)
    (gives outcome.Stuck w)

-- the body of a constructor for which that many superclasses may come
abbrev pub run_maker : Program → Parts → ℕ → Maker → ℕ → List Value → Run
run_maker p part levels maker o args =
    called p finished (Some o) args maker.locals (build p part (construct p part levels) o maker)

-- what is done with a new object of a class of the file
abbrev pub new_from : Program → Parts → ℕ → List Expr → ℕ → Run
new_from p part k es o =
    arguments p part es []
    (λ args. construct p part (length p.classes) k o args >> gives (outcome.Value (value.Ref o)))

-- the message of a new object, whose value the object is
abbrev pub messaged : Parts → ℕ → Option Expr → Run
messaged part o message =
    option_map_or (λ e. part.expr e >>= (λ v. write_cell o message_place v)) message (gives outcome.Normal)
    >> gives (outcome.Value (value.Ref o))
