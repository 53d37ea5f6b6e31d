-- Internal: how much can be done without a step.
use Rattle.std.specs.Prelude.{ℕ, ◌+◌, ◌*◌, ◌≤◌, List, [], ◌∷◌, length}
use Rattle.interpreter.specs.declared.frame.Callee.{Callee}
use Rattle.interpreter.specs.declared.frame.Callee.TheVariants as callee
use Rattle.interpreter.specs.declared.frame.CallFrame.{CallFrame}
use Rattle.interpreter.specs.declared.frame.CallFrame.TheVariants as call
use Rattle.interpreter.specs.declared.frame.Frame.{Frame}
use Rattle.interpreter.specs.declared.frame.Frame.TheVariants as frame
use Rattle.interpreter.specs.declared.frame.Focus.{Focus}
use Rattle.interpreter.specs.declared.frame.Focus.TheVariants as focus
use Rattle.interpreter.specs.Setting.{Point}

-- an outcome
abbrev pub answer_weight : ℕ
answer_weight = 8

-- a constructor for which that many superclasses may come
abbrev pub construct_weight : ℕ → ℕ
construct_weight levels = answer_weight + 2 + 6 * (levels + 1)

-- how much more than other functions one may leave that goes on with this call
abbrev pub call_weight : ℕ → Callee → ℕ
call_weight classes (callee.New k o) = 6 * (classes + 1) + 4
call_weight classes (callee.Parent k o levels) = 6 * (levels + 1) + 2
call_weight classes _ = 2

-- what a node that is entered may leave beyond what other functions may: the way to a constructor
abbrev pub entry_weight : ℕ → ℕ
entry_weight classes = 6 * (classes + 1) + 4

-- the same of a frame on the way to a call
abbrev pub frame_calling : ℕ → CallFrame → ℕ
frame_calling classes (call.Receiver selector es) = 2
frame_calling classes (call.Argument c es got) = call_weight classes c

abbrev pub call_frame_weight : ℕ → CallFrame → ℕ
call_frame_weight classes (call.Receiver selector es) = 4
call_frame_weight classes (call.Argument c es got) = 2 + call_weight classes c

abbrev pub frame_weight : ℕ → Frame → ℕ
frame_weight classes (frame.Call x) = call_frame_weight classes x
frame_weight classes (frame.Loop x) = 4
frame_weight classes _ = 2

abbrev pub frames_weight : ℕ → List Frame → ℕ
frames_weight classes [] = 0
frames_weight classes (x ∷ xs) = frame_weight classes x + frames_weight classes xs

abbrev pub focus_weight : Focus → ℕ
focus_weight (focus.Expr e) = 0
focus_weight (focus.Stmt s) = 0
focus_weight (focus.Loop l) = answer_weight + 2
focus_weight (focus.Construct k o args levels) = construct_weight levels
focus_weight (focus.Print bytes) = answer_weight + 1
focus_weight (focus.Answer o) = answer_weight

-- from m the machine leaves at most this weight more
abbrev pub Weighs : ℕ → Point → Point → Focus → Type 0
Weighs most m n y =
    let classes = length m.setting.program.classes in
    frames_weight classes n.frames + focus_weight y ≤ most + frames_weight classes m.frames

-- from m the machine leaves no more than the weight of an outcome, and what is given beyond that
abbrev pub IsLight : ℕ → Point → Point → Focus → Type 0
IsLight more m n y = Weighs (answer_weight + 1 + more) m n y
