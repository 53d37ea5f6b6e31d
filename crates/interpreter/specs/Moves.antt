-- Internal: how the machine's functions go on as a part of the program goes on.
use Rattle.std.specs.Prelude.{◌≡◌, ℕ, ◌+◌, Bool, true, false, List, [], ◌∷◌, ◌++◌, Option}
use Rattle.core_tree.specs.declared.program.Program.{Program}
use Rattle.heap_arena.specs.Heap.{Value}
use Rattle.relation_bounds.specs.declared.journal.Entry.{Entry}
use Rattle.evaluation.specs.World.{Run, gives}
use Rattle.evaluation.specs.Calls.{Parts}
use Rattle.evaluation.specs.Execute.{meaning}
use Rattle.interpreter.specs.declared.frame.Made.{Made}
use Rattle.interpreter.specs.declared.frame.Made.TheVariants as made
use Rattle.interpreter.specs.declared.frame.CallEnd.{CallEnd}
use Rattle.interpreter.specs.declared.frame.PlainFrame.TheVariants as plain
use Rattle.interpreter.specs.declared.frame.Frame.{Frame}
use Rattle.interpreter.specs.declared.frame.Frame.TheVariants as frame
use Rattle.interpreter.specs.declared.frame.Focus.{Focus}
use Rattle.interpreter.specs.declared.frame.Focus.TheVariants as focus
use Rattle.interpreter.specs.declared.running.Running.{Running}
use Rattle.heap_arena.specs.State.{StoreState}
use Rattle.interpreter.specs.Frames.{stacked, focused}
use Rattle.interpreter.specs.Setting.{Point, point, world}
use Rattle.interpreter.specs.Weights.{Weighs, IsLight}

-- the frame isn't a loop's
abbrev pub is_other : Frame → Bool
is_other (frame.Loop x) = false
is_other _ = true

abbrev pub AreOther : List Frame → Type 0
AreOther [] = Unit {0}
AreOther (x ∷ xs) = (is_other x ≡ true) × AreOther xs

-- a loop's frame is pushed before a node alone, since only after a node is one step less left than there was depth; and
-- where it is resumed, a further turn may come
abbrev pub IsFresh : Bool → Focus → List Frame → Type 0
IsFresh resumes (focus.Expr e) xs = Unit {0}
IsFresh resumes (focus.Stmt s) xs = Unit {0}
IsFresh resumes (focus.Loop l) xs = (resumes ≡ true) × (xs ≡ [])
IsFresh resumes _ xs = AreOther xs

-- n has a frame more than m, and is else as m
abbrev pub Pushes : Frame → Point → Point → Type 0
Pushes x m n = n ≡ record m { frames = x ∷ m.frames }

-- n begins a body with this `this` and these locals, over the frame that goes back to m
abbrev pub Begins : CallEnd → Option ℕ → List Value → Point → Point → Type 0
Begins e this locals m n = n ≡ record m {
  frames = frame.Plain (plain.Leave e m.this m.locals) ∷ m.frames;
  this = this;
  locals = locals;
  live = m.live + 1;
}

-- what comes of an object that is to be made
abbrev pub made_then : Made → (ℕ → Run) → Run
made_then (made.Object o) go = go o
made_then (made.Ended o) go = gives o

-- from m to n an object is made in this way, or the run ends
pub record Makes (way : (ℕ → Run) → Run) (m n : Point) (object : Made) : Type 0 where
  pub setting : n.setting ≡ m.setting
  pub taken : n.taken ≡ m.taken
  pub marks : n.marks ≡ m.marks
  pub frames : n.frames ≡ m.frames
  pub same : (go : ℕ → Run) (f : ℕ) (J : List Entry) → way go (world m f J) ≡ made_then object go (world n f J)

-- from m the machine goes on to n and the focus y, as a part goes on that does this
pub record Moves (resumes : Bool) (node : Parts → Run) (m n : Point) (y : Focus) : Type 0 where
  pub pushed : List Frame
  pub fresh : IsFresh resumes y pushed
  pub setting : n.setting ≡ m.setting
  pub taken : n.taken ≡ m.taken
  pub marks : n.marks ≡ m.marks
  pub frames : n.frames ≡ pushed ++ m.frames
  pub same : (k f : ℕ) (J : List Entry) →
      let p = m.setting.program in
      let part = meaning p k in
      node part (world m f J) ≡ stacked p part pushed (focused p part y (world n f J))

-- where memory ran out
pub record Fails (m n : Point) : Type 0 where
  pub setting : n.setting ≡ m.setting
  pub taken : n.taken ≡ m.taken

module _ {S : Type 0} (state : S → StoreState) where
  -- the machine goes on as a part goes on that does this in its program
  abbrev pub Goes : (Program → Parts → Run) → Running S → Running S → Focus → Type 0
  Goes node old new y = Moves false (node old.program.now) (point state old) (point state new) y

  -- the same, where a loop's frame is resumed
  abbrev pub Turns : (Program → Parts → Run) → Running S → Running S → Focus → Type 0
  Turns node old new y = Moves true (node old.program.now) (point state old) (point state new) y

  -- the machine leaves at most this weight more
  abbrev pub Adds : ℕ → Running S → Running S → Focus → Type 0
  Adds most old new y = Weighs most (point state old) (point state new) y

  -- the machine leaves no more weight than an outcome has, and what is given beyond that
  abbrev pub Leaves : ℕ → Running S → Running S → Focus → Type 0
  Leaves more old new y = IsLight more (point state old) (point state new) y

  -- memory ran out
  abbrev pub FailsIn : Running S → Running S → Type 0
  FailsIn old new = Fails (point state old) (point state new)
