-- What a statement does, given what its parts do, and what nodes do.
use Rattle.std.specs.Prelude.{ℕ, zero, suc, pos, Bool, List, [], ◌∷◌, ◌++◌, Option, Some, None, if◌then◌else◌}
use Rattle.std.specs.Option.{option_map_or}
use Rattle.std.specs.Str.{encode_utf8_all}
use Rattle.core_tree.specs.declared.operator.UpOp.{UpOp}
use Rattle.core_tree.specs.declared.expr.Expr.{Expr, out-Expr}
use Rattle.core_tree.specs.declared.stmt.Target.{Target}
use Rattle.core_tree.specs.declared.stmt.Target.TheVariants as target
use Rattle.core_tree.specs.declared.stmt.Stmt.{Stmt, out-Stmt}
use Rattle.core_tree.specs.declared.stmt.Stmt.TheOpen.{Stmt-F}
use Rattle.core_tree.specs.declared.stmt.Catch.{Catch, out-Catch}
use Rattle.core_tree.specs.declared.program.Program.{Program}
use Rattle.core_tree.specs.Types.{is_subclass}
use Rattle.heap_arena.specs.declared.cell.Cell.TheVariants as value
use Rattle.heap_arena.specs.Heap.{Value, default_of, class_at}
use Rattle.evaluation.specs.declared.outcome.Outcome.{Outcome}
use Rattle.evaluation.specs.declared.outcome.Outcome.TheVariants as outcome
use Rattle.evaluation.specs.declared.place.Place.{Place}
use Rattle.evaluation.specs.declared.place.Place.TheVariants as location
use Rattle.evaluation.specs.World.{Answer, Run, gives, continued, after, ◌>>=◌, ◌>>◌, enter}
use Rattle.evaluation.specs.Values.{shown, update_value}
use Rattle.evaluation.specs.Objects.{computed, write_local, read_place, write_place, with_object, with_field, with_element}
use Rattle.evaluation.specs.Calls.{Parts, Loop, block}
use Rattle.evaluation.specs.Evaluate.{choose, expr_node}

-- ---- printing

-- the bytes of a text in UTF-8, and a line feed after them where a line ends
abbrev pub printed : Bool → List ℕ → List ℕ
printed line t = encode_utf8_all t ++ (if line then 10 ∷ [] else [])

abbrev pub prints : List ℕ → Run
prints bytes w = record { outcome = outcome.Normal; world = w; out = bytes; kept = [] }

abbrev pub print_value : Bool → Value → Run
print_value line v = option_map_or (λ t. prints (printed line t)) (shown v) (gives outcome.Stuck)

-- ---- exceptions

-- the first `catch` whose class is the thrown object's or a superclass of it (JLS 14.20.1)
abbrev pub handler : Program → List Catch → ℕ → Option Catch
handler p [] c = None
handler p (k ∷ ks) c = if is_subclass p.classes c (out-Catch k).class then Some k else handler p ks c

-- `throw`: null throws a NullPointerException (JLS 14.18)
abbrev pub throw : Program → Value → Run
throw p v = with_object p v (λ o. gives (outcome.Throw o))

-- where the second of two outcomes is Normal, the first stands
abbrev pub keeping : Outcome → Answer → Answer
keeping o a = elim (a.outcome) [ outcome.Normal ↦ record a { outcome = o } | _ ↦ a ]

-- a `finally` block is executed after every outcome that doesn't end the run (JLS 14.20.2)
abbrev pub finally : Run → Answer → Answer
finally block a = elim (a.outcome) [
  | outcome.Spent ↦ a
  | outcome.Full what ↦ a
  | outcome.Stuck ↦ a
  | _ ↦ after a.out a.kept (keeping a.outcome (block a.world))
]

module _ (p : Program) (part : Parts) where
  -- ---- assignments

  -- goes on with what an assignment writes to
  abbrev pub with_target : Target → (Place → Run) → Run
  with_target (target.Local at) go = go (location.Local at)
  with_target (target.Field e at) go = do
    o ← part.expr e
    with_field p o at go
  with_target (target.Element e f) go = do
    a ← part.expr e
    i ← part.expr f
    with_element p a i go

  -- an assignment: the parts of the target, the value, and only then null, the index and the store (JLS 15.26.1)
  abbrev pub assign : Target → Expr → Run
  assign (target.Local at) e = do
    v ← part.expr e
    write_local at v
  assign (target.Field e at) f = do
    o ← part.expr e
    v ← part.expr f
    with_field p o at (λ place. write_place p place v)
  assign (target.Element e f) g = do
    a ← part.expr e
    i ← part.expr f
    v ← part.expr g
    with_element p a i (λ place. write_place p place v)

  -- the other operand of a compound assignment, or 1
  abbrev pub operand : Option Expr → Run
  operand e = option_map_or part.expr e (gives (outcome.Value (value.Int (pos 1))))

  -- a compound assignment reads the old value before the other operand is evaluated (JLS 15.26.2)
  abbrev pub update_place : UpOp → Option Expr → Place → Run
  update_place op e place = do
    x ← read_place place
    y ← operand e
    v ← computed p (update_value op x y)
    write_place p place v

  -- ---- choices and loops

  -- a condition, which is true where there is none
  abbrev pub tested : Option Expr → Run → Run → Run
  tested None where_true where_false = where_true
  tested (Some e) where_true where_false = do
    x ← part.expr e
    choose x where_true where_false

  -- after the body of a loop: the updates and a further turn, unless it was left (JLS 14.12 to 14.16)
  abbrev pub after_body : Loop → Answer → Answer
  after_body loop a = elim (a.outcome) [
    | outcome.Normal ↦ continued a (block p part loop.updates >> part.loop loop)
    | outcome.Continue ↦ continued a (block p part loop.updates >> part.loop loop)
    | outcome.Break ↦ continued a (gives outcome.Normal)
    | _ ↦ a
  ]

  abbrev pub body_of : Loop → Run
  body_of loop w = after_body loop (part.stmt loop.body w)

  -- a turn of a loop: its condition, and where that is true its body
  abbrev pub turn : Loop → Run
  turn loop = tested loop.test (body_of loop) (gives outcome.Normal)

  -- ---- exceptions

  abbrev pub handled : ℕ → Option Catch → Run
  handled o None = gives (outcome.Throw o)
  handled o (Some k) = write_local (out-Catch k).slot (value.Ref o) >> part.stmt (out-Catch k).body

  abbrev pub catch_object : List Catch → ℕ → Run
  catch_object ks o w = option_map_or (λ c. handled o (handler p ks c) w) (class_at w.now o) (gives outcome.Stuck w)

  -- an exception goes to the first `catch` that takes it; every other outcome stands
  abbrev pub catching : List Catch → Answer → Answer
  catching ks a = elim (a.outcome) [ outcome.Throw o ↦ continued a (catch_object ks o) | _ ↦ a ]

  abbrev pub finally_if : Option Stmt → Answer → Answer
  finally_if None a = a
  finally_if (Some s) a = finally (part.stmt s) a

  -- ---- statements

  -- what a statement does (JLS 14)
  abbrev pub stmt_node : Stmt-F Stmt Catch → Run
  stmt_node Stmt-F.Empty = gives outcome.Normal
  stmt_node (Stmt-F.Block ss) = block p part ss
  stmt_node (Stmt-F.Declare at t None) = write_local at (default_of t)
  stmt_node (Stmt-F.Declare at t (Some e)) = do
    v ← part.expr e
    write_local at v
  stmt_node (Stmt-F.Assign to e) = assign to e
  stmt_node (Stmt-F.Update to op e) = with_target to (update_place op e)
  stmt_node (Stmt-F.Eval e) = do
    _ ← part.expr e
    gives outcome.Normal
  stmt_node (Stmt-F.Print line None) = prints (printed line [])
  stmt_node (Stmt-F.Print line (Some e)) = do
    v ← part.expr e
    print_value line v
  stmt_node (Stmt-F.If e s other) = do
    x ← part.expr e
    choose x (part.stmt s) (option_map_or part.stmt other (gives outcome.Normal))
  stmt_node (Stmt-F.While e s) = turn (record { test = Some e; updates = []; body = s })
  stmt_node (Stmt-F.DoWhile s e) = body_of (record { test = Some e; updates = []; body = s })
  stmt_node (Stmt-F.For first test updates s) = block p part first >> turn (record { test = test; updates = updates; body = s })
  stmt_node (Stmt-F.Return None) = gives (outcome.Return None)
  stmt_node (Stmt-F.Return (Some e)) = do
    v ← part.expr e
    gives (outcome.Return (Some v))
  stmt_node Stmt-F.Break = gives outcome.Break
  stmt_node Stmt-F.Continue = gives outcome.Continue
  stmt_node (Stmt-F.Throw e) = do
    v ← part.expr e
    throw p v
  stmt_node (Stmt-F.Try s ks last) = λ w. finally_if last (catching ks (part.stmt s w))

-- ---- nodes

-- What nodes do, by recursion on a depth. Each node takes a step, and each turn of a loop enters a node, so where the
-- depth is at least the steps that are left, no step is left when the depth runs out, and Spent is right there
unfoldable pub meaning : Program → ℕ → Parts
meaning p zero = record { expr = λ e. gives outcome.Spent; stmt = λ s. gives outcome.Spent; loop = λ l. gives outcome.Spent }
meaning p (suc k) = record {
  expr = λ e. enter (expr_node p (meaning p k) (out-Expr e));
  stmt = λ s. enter (stmt_node p (meaning p k) (out-Stmt s));
  loop = turn p (meaning p k);
}
