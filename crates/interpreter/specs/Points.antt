-- Internal: the points of whole runs, and what a step, a drive and a run of the machine do.
use Rattle.std.specs.Prelude.{◌≡◌, ℕ, suc, ◌+◌, ◌-◌, ◌*◌, ◌≤◌, ◌<◌, List, [], ◌∷◌, ◌++◌, length, Result, Ok, Err}
use Rattle.pb_io.specs.declared.sink.PutError.{PutError}
use Rattle.pb_io.specs.Sink.{SinkState, Puts}
use Rattle.core_tree.specs.declared.program.Program.{Program}
use Rattle.relation_bounds.specs.declared.journal.Entry.{Entry}
use Rattle.evaluation.specs.declared.outcome.Outcome.{Outcome}
use Rattle.evaluation.specs.World.{Answer, after}
use Rattle.evaluation.specs.Execute.{meaning}
use Rattle.interpreter.specs.declared.frame.Frame.{Frame}
use Rattle.interpreter.specs.declared.frame.Frame.TheVariants as frame
use Rattle.interpreter.specs.declared.frame.Focus.{Focus}
use Rattle.interpreter.specs.declared.frame.Focus.TheVariants as focus
use Rattle.interpreter.specs.declared.frame.Next.{Next}
use Rattle.interpreter.specs.declared.frame.Next.TheVariants as next
use Rattle.interpreter.specs.declared.frame.EarlyEnd.{EarlyEnd}
use Rattle.interpreter.specs.declared.frame.EarlyEnd.TheVariants as early
use Rattle.interpreter.specs.Frames.{resumed, focused}
use Rattle.interpreter.specs.Setting.{Point, world}
use Rattle.interpreter.specs.Weights.{answer_weight, entry_weight, frames_weight, focus_weight}

-- ---- whole runs

-- the depth that a frame wants: a loop's frame stands over one turn more
abbrev pub wanted : Frame → ℕ → ℕ
wanted (frame.Loop x) k = k
wanted _ k = suc k

-- what the frames from the top make of an answer, each at a depth of its own
abbrev pub Stands : Program → ℕ → List Frame → (Answer → Answer) → Type 0
Stands p g [] make = (a : Answer) → make a ≡ a
Stands p g (x ∷ xs) make =
    (k : ℕ) × (g ≤ wanted x k) × (rest : Answer → Answer) × Stands p g xs rest
    × ((a : Answer) → make a ≡ rest (resumed p (meaning p k) x a))

-- after a node that has been entered there is one step less than there was depth
abbrev pub room : Focus → ℕ → ℕ
room (focus.Expr e) f = f
room (focus.Stmt s) f = f
room _ f = suc f

-- the depth that a focus wants: a further turn is one lower
abbrev pub depth_of : Focus → ℕ → ℕ
depth_of (focus.Loop l) f = suc f
depth_of _ f = f

-- with these bytes printed, f steps left and these answers to come, a whole run gives what the frames make of the part
-- at the focus
pub record Gives (m : Point) (printed : List ℕ) (x : Focus) (f : ℕ) (J : List Entry) (whole : Answer) : Type 0 where
  pub make : Answer → Answer
  pub depth : ℕ
  pub frames : Stands m.setting.program (room x f) m.frames make
  pub deep : depth_of x f ≤ depth
  pub same :
      let p = m.setting.program in whole ≡ after printed [] (make (focused p (meaning p depth) x (world m f J)))

-- the runs of a program: what it gives, by the number of its steps and the answers to come
abbrev pub Runs : Type 0
Runs = ℕ → List Entry → Answer

-- each of the runs comes by this point
pub record At (R : Runs) (m : Point) (printed : List ℕ) (x : Focus) : Type 0 where
  pub gives : (f : ℕ) (J : List Entry) → Gives m printed x f J (R (m.taken + f) J)

-- ---- steps

-- the machine goes from the first point to the second and prints these bytes: each run that comes by the first comes by
-- the second
pub record Leads (m : Point) (x : Focus) (before : SinkState) (n : Point) (y : Focus) (now : SinkState) : Type 0 where
  pub more : List ℕ
  pub put : Puts before now more {T = Unit {0}} (Ok tt)
  pub on : (R : Runs) (printed : List ℕ) → At R m printed x → At R n (printed ++ more) y
  pub setting : n.setting ≡ m.setting
  pub marks : n.marks ≡ m.marks
  pub within : n.taken ≤ n.setting.budget

-- each run that comes by this point, with the budget as its steps, ends with this outcome and in the heap of now, it
-- has the steps that weren't taken and all answers left, and its output, which is that of a run with just the steps
-- taken, was put
pub record Ends (m : Point) (x : Focus) (before : SinkState) (n : Point) (now : SinkState) (o : Outcome) : Type 0 where
  pub within : n.taken ≤ m.setting.budget
  pub setting : n.setting ≡ m.setting
  pub marks : n.marks ≡ m.marks
  pub outcome : (R : Runs) (printed : List ℕ) (J : List Entry) → At R m printed x →
      (R m.setting.budget J).outcome ≡ o
  pub heap : (R : Runs) (printed : List ℕ) (J : List Entry) → At R m printed x →
      (R m.setting.budget J).world.now ≡ n.now
  pub fuel : (R : Runs) (printed : List ℕ) (J : List Entry) → At R m printed x →
      (R m.setting.budget J).world.fuel + n.taken ≡ m.setting.budget
  pub journal : (R : Runs) (printed : List ℕ) (J : List Entry) → At R m printed x →
      (R m.setting.budget J).world.journal ≡ J
  pub put : (R : Runs) (printed : List ℕ) (J : List Entry) → At R m printed x →
      (more : List ℕ) × ((R m.setting.budget J).out ≡ printed ++ more) × ((R n.taken J).out ≡ printed ++ more)
      × Puts before now more {T = Unit {0}} (Ok tt)

-- what the sink answered to the puts of a machine that stopped early
abbrev pub sink_answer : EarlyEnd → Result (Unit {0}) PutError
sink_answer early.OutOfMemory = Ok tt
sink_answer (early.Refused error) = Err error

-- the machine stopped early: what was put, or a prefix of it where the sink refused, begins what the run with just the
-- steps taken prints
pub record Stops (m : Point) (x : Focus) (before : SinkState) (n : Point) (now : SinkState) (end : EarlyEnd)
    : Type 0 where
  pub within : n.taken ≤ m.setting.budget
  pub put : (R : Runs) (printed : List ℕ) (J : List Entry) → At R m printed x →
      (more : List ℕ)
      × ((rest : List ℕ) × ((R n.taken J).out ≡ printed ++ (more ++ rest)) × Puts before now more (sink_answer end))

-- the work that is left: what the frames and the steps can still lead to
abbrev pub work : Point → Focus → ℕ
work m x =
    let classes = length m.setting.program.classes in
    (answer_weight + 2 + entry_weight classes) * (m.setting.budget - m.taken)
    + frames_weight classes m.frames + focus_weight x

-- one step of the machine
abbrev pub Steps : Point → Focus → SinkState → Point → SinkState → Result Next EarlyEnd → Type 0
Steps m x before n now (Ok (next.On y)) = Leads m x before n y now × (work n y < work m x)
Steps m x before n now (Ok (next.End o)) = Ends m x before n now o
Steps m x before n now (Err end) = Stops m x before n now end

-- the same, whatever the sink is, which no call reaches
abbrev pub StepsAlone : Point → Focus → Point → Result Next EarlyEnd → Type 0
StepsAlone m x n end = (sink : SinkState) → Steps m x sink n sink end

-- the machine goes on with an outcome, a frame having been taken off
abbrev pub Resumes : Frame → Outcome → Point → Point → Focus → Type 0
Resumes x o m n y =
    (m0 : Point) (sink : SinkState) → m0 ≡ record m { frames = x ∷ m.frames } →
    Leads m0 (focus.Answer o) sink n y sink × (work n y < work m0 (focus.Answer o))

-- steps to the end
abbrev pub Drives : Point → Focus → SinkState → Point → SinkState → Result Outcome EarlyEnd → Type 0
Drives m x before n now (Ok o) = Ends m x before n now o
Drives m x before n now (Err end) = Stops m x before n now end
