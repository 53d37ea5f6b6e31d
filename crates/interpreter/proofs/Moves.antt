-- Ways in which the machine goes on.
use Rattle.std.proofs.Common.{Bor, ◌≡◌, ◌<◌, ◌+◌, suc, drop, map, Some, ℕ, Bool, true, false, List, [], ◌∷◌, ◌++◌, length, Option, Result, Ok, Err, IfOk, refl, sym, ap, subst, ◌∙◌}
use Rattle.relation_bounds.specs.declared.journal.Entry.{Entry}
use Rattle.std.proofs.lemmas.Bool.{lt-ltb}
use Rattle.core_tree.specs.declared.ty.Ty.{Ty}
use Rattle.core_tree.specs.declared.expr.Expr.{Expr}
use Rattle.core_tree.specs.declared.stmt.Stmt.{Stmt}
use Rattle.core_tree.specs.declared.stmt.Catch.{Catch}
use Rattle.core_tree.specs.declared.program.Field.{Field}
use Rattle.core_tree.specs.declared.program.Maker.{Maker}
use Rattle.core_tree.specs.declared.program.Method.{Method}
use Rattle.core_tree.specs.declared.program.Program.{Program}
use Rattle.evaluation.specs.declared.outcome.Outcome.{Outcome}
use Rattle.evaluation.specs.World.{World, Answer, Run, gives, normal_then, value_then, ◌>>◌}
use Rattle.heap_arena.specs.Heap.{Value, default_of}
use Rattle.evaluation.specs.Calls.{Parts, arguments, block, build, build_parent, construct, initialise, leave, most_live, run_method}
use Rattle.evaluation.specs.Execute.{catching, finally, meaning}
use Rattle.interpreter.specs.declared.frame.ValueFrame.TheVariants as on
use Rattle.interpreter.specs.declared.frame.CallEnd.{CallEnd}
use Rattle.interpreter.specs.declared.frame.CallEnd.TheVariants as end
use Rattle.interpreter.specs.declared.frame.Callee.TheVariants as callee
use Rattle.interpreter.specs.declared.frame.LoopParts.{LoopParts}
use Rattle.interpreter.specs.declared.frame.LoopFrame.TheVariants as loop
use Rattle.interpreter.specs.declared.frame.NormalFrame.TheVariants as normal
use Rattle.interpreter.specs.declared.frame.PlainFrame.TheVariants as plain
use Rattle.interpreter.specs.declared.frame.Frame.{Frame}
use Rattle.interpreter.specs.declared.frame.Frame.TheVariants as frame
use Rattle.interpreter.specs.declared.frame.Made.TheVariants as made
use Rattle.interpreter.specs.declared.frame.Focus.{Focus}
use Rattle.interpreter.specs.declared.frame.Focus.TheVariants as focus
use Rattle.interpreter.specs.Frames.{called_with, loop_of, used, ended, resumed, stacked, focused}
use Rattle.interpreter.specs.Setting.{Setting, Point, world}
use Rattle.interpreter.specs.Moves.{Begins, Makes, is_other, AreOther, IsFresh, Pushes, Moves}
use Rattle.interpreter.specs.Functions.{new_from, next_turn, run_maker}
use Rattle.interpreter.specs.Starts.{started}

-- in m's program a part does this, with f steps left and these answers to come
abbrev pub Does : Point → (Parts → Run) → (Program → Parts → ℕ → List Entry → Answer) → Type 0
Does m node answer =
    (k f : ℕ) (J : List Entry)
    → let p = m.setting.program in node (meaning p k) (world m f J) ≡ answer p (meaning p k) f J

-- nothing is pushed
pub stays : (b : Bool) (node : Parts → Run) (m n : Point) (y : Focus) → IsFresh b y [] → n.setting ≡ m.setting
    → n.taken ≡ m.taken → n.marks ≡ m.marks → n.frames ≡ m.frames
    → Does m node (λ p part f J. focused p part y (world n f J)) → Moves b node m n y
stays b node m n y fresh setting taken marks frames same = record {
  pushed = [];
  fresh = fresh;
  setting = setting;
  taken = taken;
  marks = marks;
  frames = frames;
  same = same;
}

-- one frame is pushed
pub pushes : (b : Bool) (node : Parts → Run) (m n : Point) (x : Frame) (y : Focus) → IsFresh b y (x ∷ []) → Pushes x m n
    → Does m node (λ p part f J. resumed p part x (focused p part y (world m f J))) → Moves b node m n y
pushes b node m n x y fresh is same = record {
  pushed = x ∷ [];
  fresh = fresh;
  setting = rw is refl;
  taken = rw is refl;
  marks = rw is refl;
  frames = rw is refl;
  same = λ k f J. rw is (same k f J);
}

-- two frames are pushed before a statement, the lower one maybe a loop's
pub pushes_two : (node : Parts → Run) (m n z : Point) (x x' : Frame) (s : Bor Stmt) → Pushes x m n → Pushes x' n z
    → Does m node (λ p part f J. resumed p part x (resumed p part x' (focused p part (focus.Stmt s) (world m f J))))
    → Moves true node m z (focus.Stmt s)
pushes_two node m n z x x' s first second same = record {
  pushed = x' ∷ x ∷ [];
  fresh = tt;
  setting = rw (second, first) refl;
  taken = rw (second, first) refl;
  marks = rw (second, first) refl;
  frames = rw (second, first) refl;
  same = λ k f J. rw (second, first) (same k f J);
}

-- frames of which none is a loop's stay so with one more of them below
others_and : (xs : List Frame) (x : Frame) → is_other x ≡ true → AreOther xs → AreOther (xs ++ x ∷ [])
others_and [] x other are = (other, tt)
others_and (y ∷ xs) x other are = (are.0, others_and xs x other are.1)

fresh_and : (y : Focus) (xs : List Frame) (x : Frame) → is_other x ≡ true → IsFresh false y xs
    → IsFresh false y (xs ++ x ∷ [])
fresh_and (focus.Expr e) xs x other fresh = tt
fresh_and (focus.Stmt s) xs x other fresh = tt
fresh_and (focus.Loop l) xs x other fresh = cc
fresh_and (focus.Construct k o args levels) xs x other fresh = others_and xs x other fresh
fresh_and (focus.Print bytes) xs x other fresh = others_and xs x other fresh
fresh_and (focus.Answer o) xs x other fresh = others_and xs x other fresh

stacked_and : (p : Program) (part : Parts) (xs : List Frame) (x : Frame) (a : Answer)
    → stacked p part (xs ++ x ∷ []) a ≡ resumed p part x (stacked p part xs a)
stacked_and p part [] x a = refl
stacked_and p part (y ∷ xs) x a = stacked_and p part xs x (resumed p part y a)

append_one : (xs : List Frame) (x : Frame) (ys : List Frame) → xs ++ (x ∷ ys) ≡ (xs ++ x ∷ []) ++ ys
append_one [] x ys = refl
append_one (y ∷ xs) x ys = ap (λ zs. y ∷ zs) (append_one xs x ys)

-- from m to n there is one frame more, and n's world is the one of m or another: a part goes on over that frame
pub over : (node inner : Parts → Run) (m n z : Point) (x : Frame) (y : Focus) → is_other x ≡ true
    → n.setting ≡ m.setting → n.taken ≡ m.taken → n.marks ≡ m.marks → n.frames ≡ x ∷ m.frames
    → Does m node (λ p part f J. resumed p part x (inner part (world n f J))) → Moves false inner n z y
    → Moves false node m z y
over node inner m n z x y other setting taken marks frames same mv = record {
  pushed = mv.pushed ++ x ∷ [];
  fresh = fresh_and y mv.pushed x other mv.fresh;
  setting = mv.setting ∙ setting;
  taken = mv.taken ∙ taken;
  marks = mv.marks ∙ marks;
  frames = mv.frames ∙ ap (λ fs. mv.pushed ++ fs) frames ∙ append_one mv.pushed x m.frames;
  same = λ k f J.
      same k f J
      ∙ ap (resumed m.setting.program (meaning m.setting.program k) x) (subst (λ (s : Setting). inner (meaning s.program k) (world n f J) ≡ stacked s.program (meaning s.program k) mv.pushed (focused s.program (meaning s.program k) y (world z f J))) setting (mv.same k f J))
      ∙ sym (stacked_and m.setting.program (meaning m.setting.program k) mv.pushed x (focused m.setting.program (meaning m.setting.program k) y (world z f J)));
}

-- the same over a frame that was pushed
pub pushed_then : (node inner : Parts → Run) (m n z : Point) (x : Frame) (y : Focus) → is_other x ≡ true → Pushes x m n
    → Does m node (λ p part f J. resumed p part x (inner part (world m f J))) → Moves false inner n z y
    → Moves false node m z y
pushed_then node inner m n z x y other is same mv =
    over node inner m n z x y other (rw is refl) (rw is refl) (rw is refl) (rw is refl) (λ k f J. rw is (same k f J)) mv

-- a part goes on as another one that does the same
pub as_node : (b : Bool) (node inner : Parts → Run) (m n : Point) (y : Focus)
    → Does m node (λ p part f J. inner part (world m f J)) → Moves b inner m n y → Moves b node m n y
as_node b node inner m n y same mv = record {
  pushed = mv.pushed;
  fresh = mv.fresh;
  setting = mv.setting;
  taken = mv.taken;
  marks = mv.marks;
  frames = mv.frames;
  same = λ k f J. same k f J ∙ mv.same k f J;
}

-- an object was made, and the machine goes on with it
pub made_then_moves : (way : (ℕ → Run) → Run) (go : Parts → ℕ → Run) (m n z : Point) (o : ℕ) (y : Focus)
    → Makes way m n (made.Object o) → Moves false (λ part. go part o) n z y → Moves false (λ part. way (go part)) m z y
made_then_moves way go m n z o y makes mv = record {
  pushed = mv.pushed;
  fresh = mv.fresh;
  setting = mv.setting ∙ makes.setting;
  taken = mv.taken ∙ makes.taken;
  marks = mv.marks ∙ makes.marks;
  frames = mv.frames ∙ ap (λ fs. mv.pushed ++ fs) makes.frames;
  same = λ k f J.
      makes.same (go (meaning m.setting.program k)) f J
      ∙ subst (λ (s : Setting). go (meaning s.program k) o (world n f J) ≡ stacked s.program (meaning s.program k) mv.pushed (focused s.program (meaning s.program k) y (world z f J))) makes.setting (mv.same k f J);
}

-- no object was made
pub unmade : (way : (ℕ → Run) → Run) (go : Parts → ℕ → Run) (m n : Point) (o : Outcome) → Makes way m n (made.Ended o)
    → Moves false (λ part. way (go part)) m n (focus.Answer o)
unmade way go m n o makes = stays false _ m n (focus.Answer o) tt makes.setting makes.taken makes.marks makes.frames (λ k f J. makes.same (go (meaning m.setting.program k)) f J)

-- an object was made, and it is in the outcome
pub made_answer : (way : (ℕ → Run) → Run) (out : ℕ → Outcome) (m n : Point) (o : ℕ) → Makes way m n (made.Object o)
    → Moves false (λ part. way (λ o. gives (out o))) m n (focus.Answer (out o))
made_answer way out m n o makes = stays false _ m n (focus.Answer (out o)) tt makes.setting makes.taken makes.marks makes.frames (λ k f J. makes.same (λ o. gives (out o)) f J)

-- the world in which a body begins with this `this` and these locals
abbrev entered : Point → Option ℕ → List Value → ℕ → List Entry → World
entered m this locals f J =
    record { this = this; locals = locals; now = m.now; live = m.live + 1; fuel = f; journal = J }

-- a body has begun, over the frame that goes back to the caller
pub begun_then : (node inner : Parts → Run) (m n z : Point) (e : CallEnd) (this : Option ℕ) (locals : List Value)
    (y : Focus)
    → Begins e this locals m n
    → Does m node (λ p part f J. leave (ended e) m.this m.locals (inner part (entered m this locals f J)))
    → Moves false inner n z y → Moves false node m z y
begun_then node inner m n z e this locals y is same mv =
    over node inner m n z (frame.Plain (plain.Leave e m.this m.locals)) y refl (rw is refl) (rw is refl) (rw is refl) (rw is refl) (λ k f J. rw is (same k f J)) mv

-- what holds of a value by two clauses
pub both : {A E : Type 0} (r : Result A E) (P Q R : A → Type 0) → ((x : A) → P x → Q x → R x) → IfOk r P → IfOk r Q
    → IfOk r R
both (Ok x) P Q R go p q = go x p q
both (Err e) P Q R go p q = tt

-- the run of a constructor for a new object
pub constructs_new : (m n : Point) (k o : ℕ) (got : List Value) (levels : ℕ) → levels ≡ length m.setting.program.classes
    → Pushes (frame.Normal (normal.New o)) m n
    → Moves false (λ part. called_with m.setting.program part (callee.New k o) got) m n (focus.Construct k o got levels)
constructs_new m n k o got levels is pushed = rw is (pushes false _ m n (frame.Normal (normal.New o)) (focus.Construct k o got (length m.setting.program.classes)) (refl, tt) pushed (λ k f J. refl))

-- the updates of a loop and a further turn
pub turns_next : (m n z : Point) (parts : LoopParts) (first : Bor Stmt) (rest : Bor (List Stmt))
    → (loop_of parts).updates ≡ first.now ∷ rest.now → Pushes (frame.Loop (loop.Updates parts)) m n
    → Pushes (frame.Normal (normal.Rest rest)) n z
    → Moves true (λ part. next_turn m.setting.program part (loop_of parts)) m z (focus.Stmt first)
turns_next m n z parts first rest is lower upper =
    let p = m.setting.program in
    pushes_two _ m n z (frame.Loop (loop.Updates parts)) (frame.Normal (normal.Rest rest)) first lower upper
    (λ k f J. ap (λ us. (block p (meaning p k) us >> (meaning p k).loop (loop_of parts)) (world m f J)) is)

-- the same as pushed_then, where the part above speaks of the program
pub pushed_by : (node : Parts → Run) (inner : Program → Parts → Run) (m n z : Point) (x : Frame) (y : Focus)
    → is_other x ≡ true → Pushes x m n → Does m node (λ p part f J. resumed p part x (inner p part (world m f J)))
    → Moves false (inner n.setting.program) n z y → Moves false node m z y
pushed_by node inner m n z x y other is same mv = pushed_then node (inner m.setting.program) m n z x y other is same (subst (λ (s : Setting). Moves false (inner s.program) n z y) (ap (λ (a : Point). a.setting) is) mv)

-- the same as begun_then, where the body speaks of the program
pub begun_by : (node : Parts → Run) (inner : Program → Parts → Run) (m n z : Point) (e : CallEnd) (this : Option ℕ)
    (locals : List Value) (y : Focus)
    → Begins e this locals m n
    → Does m node (λ p part f J. leave (ended e) m.this m.locals (inner p part (entered m this locals f J)))
    → Moves false (inner n.setting.program) n z y → Moves false node m z y
begun_by node inner m n z e this locals y is same mv = begun_then node (inner m.setting.program) m n z e this locals y is same (subst (λ (s : Setting). Moves false (inner s.program) n z y) (ap (λ (a : Point). a.setting) is) mv)

-- a constructor's superclass, and what comes after it
pub builds : (m n z : Point) (o levels : ℕ) (maker : Bor Maker) (y : Focus)
    → Pushes (frame.Normal (normal.Parent o maker)) m n
    → (let p = n.setting.program in
    Moves false (λ part. build_parent p part (construct p part levels) o maker.now.parent) n z y)
    → Moves false (λ part. build m.setting.program part (construct m.setting.program part levels) o maker.now) m z y
builds m n z o levels maker y is mv = pushed_by _ (λ p part. build_parent p part (construct p part levels) o maker.now.parent) m n z (frame.Normal (normal.Parent o maker)) y refl is (λ k f J. refl) mv

-- the body of a constructor
pub runs_maker : (m n z : Point) (o levels : ℕ) (maker : Bor Maker) (args : List Value) (y : Focus) → m.live < most_live
    → Begins end.Constructor (Some o) (args ++ map default_of maker.now.locals) m n
    → Moves false (λ part. build n.setting.program part (construct n.setting.program part levels) o maker.now) n z y
    → Moves false (λ part. run_maker m.setting.program part levels maker.now o args) m z y
runs_maker m n z o levels maker args y lt is mv = begun_by _ (λ p part. build p part (construct p part levels) o maker.now) m n z end.Constructor (Some o) (args ++ map default_of maker.now.locals) y is (λ k f J. rw (lt-ltb m.live most_live lt) refl) mv

-- the body of a method
pub runs_method : (m n z : Point) (method : Bor Method) (answer : Bor Ty) (this : Option ℕ) (args : List Value)
    (body : List Stmt) (y : Focus)
    → m.live < most_live → answer.now ≡ method.now.answer → body ≡ method.now.body
    → Begins (end.Method answer) this (args ++ map default_of method.now.locals) m n
    → Moves false (λ part. block n.setting.program part body) n z y
    → Moves false (λ part. run_method m.setting.program part method.now this args) m z y
runs_method m n z method answer this args body y lt same all is mv = begun_by _ (λ p part. block p part body) m n z (end.Method answer) this (args ++ map default_of method.now.locals) y is (λ k f J. rw (lt-ltb m.live most_live lt, all, same) refl) mv

-- a block with catch clauses, and a finally block
pub enters_finally : (m n z : Point) (body last : Stmt) (last_at : Bor Stmt) (catches : List Catch) (y : Focus)
    → last_at.now ≡ last → Pushes (frame.Plain (plain.Finally last_at)) m n
    → Moves false (λ part w. catching n.setting.program part catches (part.stmt body w)) n z y
    → (let p = m.setting.program in
    Moves false (λ part w. finally (part.stmt last) (catching p part catches (part.stmt body w))) m z y)
enters_finally m n z body last last_at catches y same is mv = pushed_by _ (λ p part w. catching p part catches (part.stmt body w)) m n z (frame.Plain (plain.Finally last_at)) y refl is (λ k f J. rw same refl) mv

-- a new object of a class of the file
pub news : (way : (ℕ → Run) → Run) (m n z : Point) (k o : ℕ) (es slice : List Expr) (got : List Value) (y : Focus)
    → Makes way m n (made.Object o) → slice ≡ es → got ≡ []
    → (let p = n.setting.program in
    Moves false (λ part. arguments p part slice got (called_with p part (callee.New k o))) n z y)
    → Moves false (λ part. way (new_from m.setting.program part k es)) m z y
news way m n z k o es slice got y makes same none mv =
    let p = n.setting.program in
    made_then_moves way (λ part. new_from m.setting.program part k es) m n z o y makes
    (as_node false _ _ n z y
    (λ i f J. ap (λ (s : Setting). new_from s.program (meaning p i) k es o (world n f J)) (sym makes.setting) ∙ ap (λ fs. arguments p (meaning p i) fs [] (called_with p (meaning p i) (callee.New k o)) (world n f J)) (sym same) ∙ ap (λ vs. arguments p (meaning p i) slice vs (called_with p (meaning p i) (callee.New k o)) (world n f J)) (sym none))
    mv)

-- an initialiser, and those after it
pub fields_then : (m n z : Point) (o c at next : ℕ) (e : Expr) (fields : Bor (List Field)) (y : Focus) → next ≡ suc at
    → Pushes (frame.Normal (normal.Fields o c next fields)) m n
    → Moves false (λ part w. value_then (used n.setting.program part (on.WriteCell o at)) (part.expr e w)) n z y
    → Moves false (λ part. started m.setting.program part o c at e fields.now) m z y
fields_then m n z o c at next e fields y follows is mv =
    let p = m.setting.program in
    pushed_by _ (λ p part w. value_then (used p part (on.WriteCell o at)) (part.expr e w)) m n z (frame.Normal (normal.Fields o c next fields)) y refl is
    (λ k f J. ap (λ i. normal_then (initialise p (meaning p k) o c i (drop i fields.now)) (value_then (used p (meaning p k) (on.WriteCell o at)) ((meaning p k).expr e (world m f J)))) (sym follows)) mv
