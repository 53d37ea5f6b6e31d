-- Internal: what the machine holds between its steps.
use Rattle.std.specs.Prelude.{◌≡◌, ℕ, List, Option}
use Rattle.core_tree.specs.declared.ty.Ty.{Ty}
use Rattle.core_tree.specs.declared.program.Program.{Program}
use Rattle.heap_arena.specs.Heap.{Heap, Value, field_types_of}
use Rattle.relation_bounds.specs.declared.journal.Entry.{Entry}
use Rattle.evaluation.specs.World.{World}
use Rattle.interpreter.specs.declared.frame.Frame.{Frame}
use Rattle.interpreter.specs.declared.running.Running.{Running}
use Rattle.heap_arena.specs.State.{StoreState}

-- what no function of the machine changes
pub record Setting : Type 0 where
  pub program : Program
  pub budget : ℕ
  -- the types of the fields of each class of the store
  pub fields : List (List Ty)

-- what the machine holds: the frames, the body that is being run, and the store
pub record Point : Type 0 where
  pub setting : Setting
  pub taken : ℕ
  pub frames : List Frame
  pub this : Option ℕ
  pub locals : List Value
  pub live : ℕ
  pub now : Heap
  pub marks : List Heap

-- what a machine holds, by what its store means
abbrev pub point : {S : Type 0} → (S → StoreState) → Running S → Point
point state m = record {
  setting = record { program = m.program.now; budget = m.budget; fields = (state m.store).field_types };
  taken = m.taken;
  frames = m.frames;
  this = m.this;
  locals = m.locals;
  live = m.live;
  now = (state m.store).now;
  marks = (state m.store).marks;
}

-- the machine's world, with that many steps left and these answers to come
abbrev pub world : Point → ℕ → List Entry → World
world m f J = record { this = m.this; locals = m.locals; now = m.now; live = m.live; fuel = f; journal = J }

-- the fields of the store's classes are the program's
abbrev pub HasFields : Point → Type 0
HasFields m = m.setting.fields ≡ field_types_of m.setting.program
