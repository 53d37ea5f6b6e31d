-- What calls and constructors do, given what the parts of nodes do.
use Rattle.std.specs.Prelude.{ℕ, zero, suc, ◌+◌, ◌-◌, ◌==◌, nat_lt, List, [], ◌∷◌, ◌++◌, map, Option, Some, None, slice_get, if◌then◌else◌}
use Rattle.std.specs.Option.{option_map_or}
use Rattle.core_tree.specs.declared.ty.Ty.{Ty}
use Rattle.core_tree.specs.declared.built_in.BuiltIn.TheVariants as class
use Rattle.core_tree.specs.declared.expr.Expr.{Expr}
use Rattle.core_tree.specs.declared.stmt.Stmt.{Stmt}
use Rattle.core_tree.specs.declared.program.Field.{Field}
use Rattle.core_tree.specs.declared.program.Method.{Method}
use Rattle.core_tree.specs.declared.program.Maker.{Maker}
use Rattle.core_tree.specs.declared.program.Parent.{Parent}
use Rattle.core_tree.specs.declared.program.Parent.TheVariants as parent
use Rattle.core_tree.specs.declared.program.Program.{Program}
use Rattle.core_tree.specs.Typing.{chosen_number}
use Rattle.heap_arena.specs.Heap.{Value, default_of, class_at}
use Rattle.evaluation.specs.declared.outcome.Outcome.{Outcome}
use Rattle.evaluation.specs.declared.outcome.Outcome.TheVariants as outcome
use Rattle.evaluation.specs.World.{Answer, Run, gives, ◌>>=◌, ◌>>◌}
use Rattle.evaluation.specs.Objects.{trap, with_object, read_cell, write_cell, message_place}

-- a loop: its condition, where it has one, what is executed after each turn, and its body
pub record Loop : Type 0 where
  pub test : Option Expr
  pub updates : List Stmt
  pub body : Stmt

-- what the parts of a node do
pub record Parts : Type 0 where
  pub expr : Expr → Run
  pub stmt : Stmt → Run
  -- a further turn of a loop
  pub loop : Loop → Run

-- a run has at most that many live calls
abbrev pub most_live : ℕ
most_live = 65_536

-- what a call gives where its body ends so: a body that falls off its end gives the default of the result's type, and a
-- method without a result gives null
abbrev pub returned : Ty → Outcome → Outcome
returned t outcome.Normal = outcome.Value (default_of t)
returned t (outcome.Return None) = outcome.Value (default_of t)
returned t (outcome.Return (Some v)) = outcome.Value v
returned t o = o

-- what the run of a constructor's body ends with
abbrev pub finished : Outcome → Outcome
finished (outcome.Return v) = outcome.Normal
finished o = o

-- the caller's `this` and locals again
abbrev pub leave : (Outcome → Outcome) → Option ℕ → List Value → Answer → Answer
leave end this locals a = record a {
  outcome = end a.outcome;
  world = record a.world { this = this; locals = locals; live = a.world.live - 1 };
}

-- a body with its own `this` and locals: the arguments first, then defaults. One call more is live in it, and where
-- that would be too many, StackOverflowError is thrown in the caller
abbrev pub called : Program → (Outcome → Outcome) → Option ℕ → List Value → List Ty → Run → Run
called p end this arguments locals body w =
    if nat_lt w.live most_live
    then leave end w.this w.locals (body (record w { this = this; locals = arguments ++ map default_of locals; live = w.live + 1 }))
    else trap p class.StackOverflowError w

module _ (p : Program) (part : Parts) where
  -- statements in order, as long as each ends normally (JLS 14.2)
  abbrev pub block : List Stmt → Run
  block [] = gives outcome.Normal
  block (s ∷ ss) = part.stmt s >> block ss

  -- arguments from left to right, after those that are there (JLS 15.7.4)
  abbrev pub arguments : List Expr → List Value → (List Value → Run) → Run
  arguments [] got go = go got
  arguments (e ∷ es) got go = part.expr e >>= (λ v. arguments es (got ++ v ∷ []) go)

  -- ---- methods

  abbrev pub run_method : Method → Option ℕ → List Value → Run
  run_method m this args = called p (returned m.answer) this args m.locals (block m.body)

  -- the method with this number
  abbrev pub invoke : ℕ → Option ℕ → List Value → Run
  invoke m this args = option_map_or (λ method. run_method method this args) (slice_get p.methods m) (gives outcome.Stuck)

  -- a selector that picks no method: `getMessage` reads the message, which is a built-in call
  abbrev pub built_in_message : ℕ → ℕ → Run
  built_in_message selector o = if selector == 0 then read_cell o message_place else gives outcome.Stuck

  -- the method that the selector picks in the run-time class of the object (JLS 15.12.4.4)
  abbrev pub dispatch_in : ℕ → ℕ → List Value → Option ℕ → Run
  dispatch_in selector o args (Some m) = invoke m (Some o) args
  dispatch_in selector o args None = built_in_message selector o

  abbrev pub dispatch : ℕ → Value → List Value → Run
  dispatch selector v args = with_object p v (λ o w.
      option_map_or (λ c. dispatch_in selector o args (chosen_number p c selector) w) (class_at w.now o) (gives outcome.Stuck w))

  -- ---- constructors

  -- the initialisers of the fields that class c declares, in order, the fields being counted from a place (JLS 12.5)
  abbrev pub initialise : ℕ → ℕ → ℕ → List Field → Run
  initialise o c at [] = gives outcome.Normal
  initialise o c at (field ∷ fields) =
      option_map_or (λ e. part.expr e >>= (λ v. write_cell o at v)) (if field.owner == c then field.start else None) (gives outcome.Normal)
      >> initialise o c (suc at) fields

  abbrev pub initialise_class : ℕ → ℕ → Run
  initialise_class o c = option_map_or (λ class. initialise o c 0 class.fields) (slice_get p.classes c) (gives outcome.Stuck)

  -- what a constructor does with the superclass, the constructor of a class of the file being run so
  abbrev pub build_parent : (ℕ → ℕ → List Value → Run) → ℕ → Parent → Run
  build_parent construct o parent.Plain = gives outcome.Normal
  build_parent construct o (parent.Message None) = gives outcome.Normal
  build_parent construct o (parent.Message (Some e)) = part.expr e >>= (λ v. write_cell o message_place v)
  build_parent construct o (parent.Maker k es) = arguments es [] (construct k o)

  -- a constructor's superclass, its field initialisers, and its body (JLS 12.5)
  abbrev pub build : (ℕ → ℕ → List Value → Run) → ℕ → Maker → Run
  build construct o maker = build_parent construct o maker.parent >> (initialise_class o maker.owner >> block maker.body)

  -- The constructor with this number, for an object with these arguments. A class has fewer superclasses than there are
  -- classes, so that with as many levels as classes they don't run out
  abbrev pub construct : ℕ → ℕ → ℕ → List Value → Run
  construct zero k o args = gives outcome.Stuck
  construct (suc levels) k o args =
      option_map_or (λ maker. called p finished (Some o) args maker.locals (build (construct levels) o maker)) (slice_get p.makers k) (gives outcome.Stuck)
