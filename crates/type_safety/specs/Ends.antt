-- How a part of a well-typed program ends: the parts are safe that have such an end in each world that fits.
use Rattle.std.specs.Prelude.{◌≡◌, ℕ, Bool, true, IsTrue, Option, Some, None}
use Rattle.std.specs.Option.{option_map_or}
use Rattle.std.specs.List.{list_all}
use Rattle.core_tree.specs.declared.ty.Ty.{Ty}
use Rattle.core_tree.specs.declared.ty.Ty.TheVariants as ty
use Rattle.core_tree.specs.declared.built_in.BuiltIn.TheVariants as class
use Rattle.core_tree.specs.declared.program.Program.{Program}
use Rattle.core_tree.specs.BuiltIn.{number_of}
use Rattle.core_tree.specs.declared.expr.Expr.{Expr}
use Rattle.core_tree.specs.declared.stmt.Stmt.{Stmt}
use Rattle.core_tree.specs.Typing.{Scope, type_of, is_condition, is_typed_stmt}
use Rattle.heap_arena.specs.Heap.{Heap, Value}
use Rattle.evaluation.specs.declared.outcome.Outcome.{Outcome}
use Rattle.evaluation.specs.declared.outcome.Outcome.TheVariants as outcome
use Rattle.evaluation.specs.World.{World, Answer}
use Rattle.evaluation.specs.Objects.{object_fits}
use Rattle.evaluation.specs.Calls.{Loop, Parts}
use Rattle.type_safety.specs.Fits.{FitsType, FitsWorld, FitsScope, HasGrown}

-- what is asked of a part
pub data Wanted : Type 0 where
  -- a value of this type
  ValueOf : Ty → Wanted
  -- that it ends normally
  NormalEnd : Wanted
  -- that it ends normally, or returns a value of this type, or jumps where it is inside a loop
  StatementEnd : Ty → Bool → Wanted

-- the value is what is asked for
abbrev pub MayHave : Program → Heap → Wanted → Value → Type 0
MayHave p h (Wanted.ValueOf t) v = FitsType p h v t
MayHave p h Wanted.NormalEnd v = ⊥
MayHave p h (Wanted.StatementEnd t inside) v = ⊥

-- a normal end is what is asked for
abbrev pub MayEnd : Wanted → Type 0
MayEnd (Wanted.ValueOf t) = ⊥
MayEnd Wanted.NormalEnd = Unit {0}
MayEnd (Wanted.StatementEnd t inside) = Unit {0}

-- a return with this value, or with none, is what is asked for
abbrev pub MayReturn : Program → Heap → Wanted → Option Value → Type 0
MayReturn p h (Wanted.ValueOf t) v = ⊥
MayReturn p h Wanted.NormalEnd v = ⊥
MayReturn p h (Wanted.StatementEnd t inside) None = Unit {0}
MayReturn p h (Wanted.StatementEnd t inside) (Some v) = FitsType p h v t

-- a jump is what is asked for
abbrev pub MayJump : Wanted → Type 0
MayJump (Wanted.ValueOf t) = ⊥
MayJump Wanted.NormalEnd = ⊥
MayJump (Wanted.StatementEnd t inside) = IsTrue inside

-- the object is of a class at or below Throwable
abbrev pub IsThrown : Program → Heap → ℕ → Type 0
IsThrown p h o = IsTrue (object_fits p h o (ty.Class (number_of class.Throwable)))

-- the outcome is what is asked for, or an exception or the end of the run; it is never Stuck
abbrev pub Meets : Program → Wanted → Heap → Outcome → Type 0
Meets p wanted h (outcome.Value v) = MayHave p h wanted v
Meets p wanted h outcome.Normal = MayEnd wanted
Meets p wanted h (outcome.Return v) = MayReturn p h wanted v
Meets p wanted h outcome.Break = MayJump wanted
Meets p wanted h outcome.Continue = MayJump wanted
Meets p wanted h (outcome.Throw o) = IsThrown p h o
Meets p wanted h outcome.Spent = Unit {0}
Meets p wanted h (outcome.Full what) = Unit {0}
Meets p wanted h outcome.Stuck = ⊥

-- a world that an expression leaves: `this` and the locals stand, and the heap has grown and fits
pub record Follows (p : Program) (w : World) (later : World) : Type 0 where
  pub world : FitsWorld p later
  pub grown : HasGrown w.now later.now
  pub this : later.this ≡ w.this
  pub locals : later.locals ≡ w.locals

-- how an expression ends
pub record EndsAs (p : Program) (wanted : Wanted) (w : World) (a : Answer) : Type 0 where
  pub world : Follows p w a.world
  pub outcome : Meets p wanted a.world.now a.outcome

-- how a statement ends in a scope: the locals still fit
pub record EndsIn (p : Program) (s : Scope) (wanted : Wanted) (w : World) (a : Answer) : Type 0 where
  pub world : FitsScope p s a.world
  pub grown : HasGrown w.now a.world.now
  pub outcome : Meets p wanted a.world.now a.outcome

-- what is asked of a loop: its condition is a boolean, and its updates and its body are well typed
pub record IsTypedLoop (p : Program) (s : Scope) (inside : Bool) (loop : Loop) : Type 0 where
  pub test : IsTrue (option_map_or (is_condition p s) loop.test true)
  pub updates : IsTrue (list_all (λ x. is_typed_stmt p s x inside) loop.updates)
  pub body : IsTrue (is_typed_stmt p s loop.body true)

-- parts that end as their types ask, in each world that fits
pub record AreSafe (p : Program) (part : Parts) : Type 0 where
  pub expr : (s : Scope) (e : Expr) (t : Ty) (w : World) → type_of p s e ≡ Some t → FitsScope p s w → EndsAs p (Wanted.ValueOf t) w (part.expr e w)
  pub stmt : (s : Scope) (x : Stmt) (inside : Bool) (w : World) → IsTrue (is_typed_stmt p s x inside) → FitsScope p s w → EndsIn p s (Wanted.StatementEnd s.answer inside) w (part.stmt x w)
  pub loop : (s : Scope) (loop : Loop) (inside : Bool) (w : World) → IsTypedLoop p s inside loop → FitsScope p s w → EndsIn p s (Wanted.StatementEnd s.answer inside) w (part.loop loop w)
