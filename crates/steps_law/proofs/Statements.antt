-- Every statement leaves as few steps as its parts, and so does a turn of a loop.
use Rattle.std.proofs.Common.{◌≤◌, ◌-◌, ℕ, pos, Bool, List, [], Option, Some, None, arith}
use Rattle.std.specs.Option.{option_map_or}
use Rattle.core_tree.specs.declared.operator.UpOp.{UpOp}
use Rattle.core_tree.specs.declared.expr.Expr.{Expr}
use Rattle.core_tree.specs.declared.stmt.Target.{Target}
use Rattle.core_tree.specs.declared.stmt.Target.TheVariants as target
use Rattle.core_tree.specs.declared.stmt.Stmt.{Stmt}
use Rattle.core_tree.specs.declared.stmt.Stmt.TheOpen.{Stmt-F}
use Rattle.core_tree.specs.declared.stmt.Catch.{Catch, out-Catch}
use Rattle.core_tree.specs.declared.program.Program.{Program}
use Rattle.heap_arena.specs.declared.cell.Cell.TheVariants as value
use Rattle.heap_arena.specs.Heap.{Value, default_of, class_at}
use Rattle.evaluation.specs.declared.outcome.Outcome.{Outcome}
use Rattle.evaluation.specs.declared.outcome.Outcome.TheVariants as outcome
use Rattle.evaluation.specs.declared.place.Place.{Place}
use Rattle.evaluation.specs.declared.place.Place.TheVariants as location
use Rattle.evaluation.specs.World.{World, KeptCall, Answer, Run, gives, ◌>>=◌, ◌>>◌}
use Rattle.evaluation.specs.Values.{shown, update_value}
use Rattle.evaluation.specs.Objects.{computed, write_local, read_place, write_place, with_field, with_element}
use Rattle.evaluation.specs.Calls.{Parts, Loop, block}
use Rattle.evaluation.specs.Evaluate.{choose}
use Rattle.evaluation.specs.Execute.{printed, prints, print_value, handler, throw, keeping, finally, with_target, assign, operand, update_place, tested, after_body, body_of, turn, handled, catch_object, catching, finally_if, stmt_node}
use Rattle.steps_law.specs.Spending.{NoneIfSpent, Leaves, Spends, AllSpend}
use Rattle.steps_law.proofs.Parts.{leaves_more, spends_less, takes_spends, option_leaves, option_spends, gives_spends, then_value, then_normal}
use Rattle.steps_law.proofs.Objects.{value_spends, normal_spends, stuck_spends, throw_spends, computed_spends, write_local_spends, read_place_spends, write_place_spends, with_object_spends, with_field_spends, with_element_spends}
use Rattle.steps_law.proofs.Calls.{block_spends}
use Rattle.steps_law.proofs.Expressions.{choose_spends, one, two}

-- ---- printing and throwing

prints_spends : {most : ℕ} (bytes : List ℕ) → Spends most (prints bytes)
prints_spends bytes = record { leaves = λ w within. record { within = omega arith; none = tt } }

print_value_spends : {most : ℕ} (line : Bool) (v : Value) → Spends most (print_value line v)
print_value_spends line v = option_spends (shown v) (λ t. prints (printed line t)) (gives outcome.Stuck) (λ t. prints_spends (printed line t)) stuck_spends

thrown_spends : {most : ℕ} (p : Program) (v : Value) → Spends most (throw p v)
thrown_spends p v = with_object_spends p v (λ o. gives (outcome.Throw o)) throw_spends

-- ---- `finally`

keeping_leaves : (most : ℕ) (o : Outcome) (a : Answer) → ((left : ℕ) → NoneIfSpent o left) → Leaves most a → Leaves most (keeping o a)
keeping_leaves most o a other leaves = cases a.outcome a.world a.out a.kept leaves.within leaves.none
  where
    cases : (end : Outcome) (u : World) (out : List ℕ) (kept : List KeptCall) → u.fuel ≤ most → NoneIfSpent end u.fuel → Leaves most (keeping o (record { outcome = end; world = u; out = out; kept = kept }))
    cases outcome.Normal u out kept within none = record { within = within; none = other u.fuel }
    cases _ u out kept within none = record { within = within; none = none }

finally_leaves : (most : ℕ) (block : Run) (a : Answer) → Leaves most a → ((u : World) → u.fuel ≤ most → Leaves most (block u)) → Leaves most (finally block a)
finally_leaves most block a leaves next = cases a.outcome a.world a.out a.kept leaves.within leaves.none
  where
    kept_leaves : (o : Outcome) (u : World) → ((left : ℕ) → NoneIfSpent o left) → u.fuel ≤ most → Leaves most (keeping o (block u))
    kept_leaves o u other within = keeping_leaves most o (block u) other (next u within)

    cases : (o : Outcome) (u : World) (out : List ℕ) (kept : List KeptCall) → u.fuel ≤ most → NoneIfSpent o u.fuel → Leaves most (finally block (record { outcome = o; world = u; out = out; kept = kept }))
    cases outcome.Spent u out kept within none = record { within = within; none = none }
    cases (outcome.Full what) u out kept within none = record { within = within; none = none }
    cases outcome.Stuck u out kept within none = record { within = within; none = none }
    cases o u out kept within none = let l = kept_leaves o u (λ left. tt) within in record { within = l.within; none = l.none }

module _ {most : ℕ} (p : Program) (part : Parts) (all : AllSpend most part) where
  statement : (s : Stmt) → Spends most (part.stmt s)
  statement s = takes_spends (all.stmt s)

  -- ---- assignments

  with_target_spends : (to : Target) (go : Place → Run) → ((place : Place) → Spends most (go place)) → Spends most (with_target p part to go)
  with_target_spends (target.Local at) go next = next (location.Local at)
  with_target_spends (target.Field e at) go next = one p part all e (λ o. with_field p o at go) (λ o. with_field_spends p o at go next)
  with_target_spends (target.Element e f) go next = two p part all e f (λ a i. with_element p a i go) (λ a i. with_element_spends p a i go next)

  assign_spends : (to : Target) (e : Expr) → Spends most (assign p part to e)
  assign_spends (target.Local at) e = one p part all e (write_local at) (write_local_spends at)
  assign_spends (target.Field e at) f =
      two p part all e f (λ o v. with_field p o at (λ place. write_place p place v)) (λ o v.
      with_field_spends p o at (λ place. write_place p place v) (λ place. write_place_spends p place v))
  assign_spends (target.Element e f) g =
      two p part all e f (λ a i. part.expr g >>= (λ v. with_element p a i (λ place. write_place p place v))) (λ a i.
      one p part all g (λ v. with_element p a i (λ place. write_place p place v)) (λ v.
      with_element_spends p a i (λ place. write_place p place v) (λ place. write_place_spends p place v)))

  operand_spends : (e : Option Expr) → Spends most (operand p part e)
  operand_spends e = option_spends e part.expr (gives (outcome.Value (value.Int (pos 1)))) all.expr (value_spends (value.Int (pos 1)))

  update_spends : (op : UpOp) (e : Option Expr) (place : Place) → Spends most (update_place p part op e place)
  update_spends op e place =
      then_value (read_place place) (λ x. operand p part e >>= (λ y. computed p (update_value op x y) >>= (λ v. write_place p place v))) (read_place_spends place) (λ x.
      then_value (operand p part e) (λ y. computed p (update_value op x y) >>= (λ v. write_place p place v)) (operand_spends e) (λ y.
      then_value (computed p (update_value op x y)) (λ v. write_place p place v) (computed_spends p (update_value op x y)) (λ v. write_place_spends p place v)))

  -- ---- choices and loops

  tested_spends : (test : Option Expr) (first second : Run) → Spends most first → Spends most second → Spends most (tested p part test first second)
  tested_spends None first second where_true where_false = where_true
  tested_spends (Some e) first second where_true where_false = one p part all e (λ x. choose x first second) (λ x. choose_spends x first second where_true where_false)

  -- the updates and a further turn, which are begun with one step less than there may be at first
  rest_spends : (loop : Loop) → Spends (most - 1) (block p part loop.updates >> part.loop loop)
  rest_spends loop = then_normal (block p part loop.updates) (part.loop loop) (spends_less (most - 1) most (block p part loop.updates) (omega arith) (block_spends p part all loop.updates)) (all.loop loop)

  after_body_leaves : (loop : Loop) (some : ℕ) (a : Answer) → some ≤ most → Leaves (some - 1) a → Leaves some (after_body p part loop a)
  after_body_leaves loop some a within leaves = cases a.outcome a.world a.out a.kept leaves.within leaves.none
    where
      rest : (u : World) → u.fuel ≤ some - 1 → Leaves some ((block p part loop.updates >> part.loop loop) u)
      rest u fewer = leaves_more u.fuel some ((block p part loop.updates >> part.loop loop) u) (omega arith) ((rest_spends loop).leaves u (omega arith))

      cases : (o : Outcome) (u : World) (out : List ℕ) (kept : List KeptCall) → u.fuel ≤ some - 1 → NoneIfSpent o u.fuel → Leaves some (after_body p part loop (record { outcome = o; world = u; out = out; kept = kept }))
      cases outcome.Normal u out kept fewer none = record { within = (rest u fewer).within; none = (rest u fewer).none }
      cases outcome.Continue u out kept fewer none = record { within = (rest u fewer).within; none = (rest u fewer).none }
      cases outcome.Break u out kept fewer none = record { within = omega arith; none = tt }
      cases _ u out kept fewer none = record { within = omega arith; none = none }

  body_spends : (loop : Loop) → Spends most (body_of p part loop)
  body_spends loop = record { leaves = λ w within. after_body_leaves loop w.fuel (part.stmt loop.body w) within ((all.stmt loop.body).leaves w within) }

  pub turn_spends : (loop : Loop) → Spends most (turn p part loop)
  turn_spends loop = tested_spends loop.test (body_of p part loop) (gives outcome.Normal) (body_spends loop) normal_spends

  -- ---- exceptions

  handled_spends : (o : ℕ) (found : Option Catch) → Spends most (handled p part o found)
  handled_spends o None = throw_spends o
  handled_spends o (Some k) = then_normal (write_local (out-Catch k).slot (value.Ref o)) (part.stmt (out-Catch k).body) (write_local_spends (out-Catch k).slot (value.Ref o)) (statement (out-Catch k).body)

  catch_spends : (ks : List Catch) (o : ℕ) → Spends most (catch_object p part ks o)
  catch_spends ks o = record {
    leaves = λ w within.
        option_leaves (class_at w.now o) (λ c. handled p part o (handler p ks c) w) (gives outcome.Stuck w) (λ c. (handled_spends o (handler p ks c)).leaves w within) (stuck_spends.leaves w within);
  }

  catching_leaves : (ks : List Catch) (some : ℕ) (a : Answer) → some ≤ most → Leaves some a → Leaves some (catching p part ks a)
  catching_leaves ks some a within leaves = cases a.outcome a.world a.out a.kept leaves.within leaves.none
    where
      caught : (o : ℕ) (u : World) → u.fuel ≤ some → Leaves some (catch_object p part ks o u)
      caught o u fewer = leaves_more u.fuel some (catch_object p part ks o u) fewer ((catch_spends ks o).leaves u (omega arith))

      cases : (o : Outcome) (u : World) (out : List ℕ) (kept : List KeptCall) → u.fuel ≤ some → NoneIfSpent o u.fuel → Leaves some (catching p part ks (record { outcome = o; world = u; out = out; kept = kept }))
      cases (outcome.Throw o) u out kept fewer none = record { within = (caught o u fewer).within; none = (caught o u fewer).none }
      cases _ u out kept fewer none = record { within = fewer; none = none }

  finally_if_leaves : (last : Option Stmt) (some : ℕ) (a : Answer) → some ≤ most → Leaves some a → Leaves some (finally_if p part last a)
  finally_if_leaves None some a within leaves = leaves
  finally_if_leaves (Some s) some a within leaves =
      finally_leaves some (part.stmt s) a leaves (λ u fewer. leaves_more u.fuel some (part.stmt s u) fewer ((statement s).leaves u (omega arith)))

  try_spends : (s : Stmt) (ks : List Catch) (last : Option Stmt) → Spends most (stmt_node p part (Stmt-F.Try s ks last))
  try_spends s ks last = record {
    leaves = λ w within. finally_if_leaves last w.fuel (catching p part ks (part.stmt s w)) within (catching_leaves ks w.fuel (part.stmt s w) within ((statement s).leaves w within));
  }

  -- ---- every statement

  pub stmt_spends : (x : Stmt-F Stmt Catch) → Spends most (stmt_node p part x)
  stmt_spends Stmt-F.Empty = normal_spends
  stmt_spends (Stmt-F.Block ss) = block_spends p part all ss
  stmt_spends (Stmt-F.Declare at t None) = write_local_spends at (default_of t)
  stmt_spends (Stmt-F.Declare at t (Some e)) = one p part all e (write_local at) (write_local_spends at)
  stmt_spends (Stmt-F.Assign to e) = assign_spends to e
  stmt_spends (Stmt-F.Update to op e) = with_target_spends to (update_place p part op e) (update_spends op e)
  stmt_spends (Stmt-F.Eval e) = one p part all e (λ v. gives outcome.Normal) (λ v. normal_spends)
  stmt_spends (Stmt-F.Print line None) = prints_spends (printed line [])
  stmt_spends (Stmt-F.Print line (Some e)) = one p part all e (print_value line) (print_value_spends line)
  stmt_spends (Stmt-F.If e s other) =
      one p part all e (λ x. choose x (part.stmt s) (option_map_or part.stmt other (gives outcome.Normal))) (λ x.
      choose_spends x (part.stmt s) (option_map_or part.stmt other (gives outcome.Normal)) (statement s) (option_spends other part.stmt (gives outcome.Normal) statement normal_spends))
  stmt_spends (Stmt-F.While e s) = turn_spends (record { test = Some e; updates = []; body = s })
  stmt_spends (Stmt-F.DoWhile s e) = body_spends (record { test = Some e; updates = []; body = s })
  stmt_spends (Stmt-F.For first test updates s) =
      then_normal (block p part first) (turn p part (record { test = test; updates = updates; body = s })) (block_spends p part all first) (turn_spends (record { test = test; updates = updates; body = s }))
  stmt_spends (Stmt-F.Return None) = gives_spends (outcome.Return None) (λ left. tt)
  stmt_spends (Stmt-F.Return (Some e)) = one p part all e (λ v. gives (outcome.Return (Some v))) (λ v. gives_spends (outcome.Return (Some v)) (λ left. tt))
  stmt_spends Stmt-F.Break = gives_spends outcome.Break (λ left. tt)
  stmt_spends Stmt-F.Continue = gives_spends outcome.Continue (λ left. tt)
  stmt_spends (Stmt-F.Throw e) = one p part all e (throw p) (thrown_spends p)
  stmt_spends (Stmt-F.Try s ks last) = try_spends s ks last
