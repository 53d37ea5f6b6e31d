-- What an expression does, given what its parts do.
use Rattle.std.specs.Prelude.{ℕ, true, false, List, [], length, Option, Some, None, slice_get}
use Rattle.std.specs.Option.{option_map_or}
use Rattle.core_tree.specs.declared.expr.Expr.{Expr}
use Rattle.core_tree.specs.declared.expr.Expr.TheOpen.{Expr-F}
use Rattle.core_tree.specs.declared.program.Program.{Program}
use Rattle.heap_arena.specs.declared.cell.Cell.TheVariants as value
use Rattle.heap_arena.specs.Heap.{Value}
use Rattle.evaluation.specs.declared.outcome.Outcome.TheVariants as outcome
use Rattle.evaluation.specs.World.{Run, gives, ◌>>=◌, ◌>>◌}
use Rattle.evaluation.specs.Values.{literal, unary_value, binary_value, concatenated, text_length, text_equals}
use Rattle.evaluation.specs.Objects.{make_instance, computed, read_local, read_place, write_cell, with_field, with_element, array_length, new_array, cast, is_instance, message_place}
use Rattle.evaluation.specs.Calls.{Parts, arguments, invoke, dispatch, construct}

-- the object that `this` is
abbrev pub this_value : Option ℕ → Run
this_value None = gives outcome.Stuck
this_value (Some o) = gives (outcome.Value (value.Ref o))

-- goes on by a boolean
abbrev pub choose : Value → Run → Run → Run
choose (value.Bool true) where_true where_false = where_true
choose (value.Bool false) where_true where_false = where_false
choose _ where_true where_false = gives outcome.Stuck

module _ (p : Program) (part : Parts) where
  -- a new object of a class of the file: it is made before its arguments are evaluated (JLS 15.9.4)
  abbrev pub new_object : ℕ → List Expr → Run
  new_object k es = option_map_or (λ maker.
      make_instance p maker.owner (λ o. arguments p part es [] (λ args. construct p part (length p.classes) k o args >> gives (outcome.Value (value.Ref o)))))
      (slice_get p.makers k) (gives outcome.Stuck)

  -- a new object of a built-in class
  abbrev pub new_built_in : ℕ → Option Expr → Run
  new_built_in c message = make_instance p c (λ o.
      option_map_or (λ e. part.expr e >>= (λ v. write_cell o message_place v)) message (gives outcome.Normal) >> gives (outcome.Value (value.Ref o)))

  -- what an expression does: operands from left to right (JLS 15.7)
  abbrev pub expr_node : Expr-F Expr → Run
  expr_node (Expr-F.Int n) = gives (outcome.Value (value.Int n))
  expr_node (Expr-F.Bool b) = gives (outcome.Value (value.Bool b))
  expr_node (Expr-F.Text t) = computed p (literal (value.Text t))
  expr_node Expr-F.Null = gives (outcome.Value value.Null)
  expr_node Expr-F.This = λ w. this_value w.this w
  expr_node (Expr-F.Local at) = read_local at
  expr_node (Expr-F.Field e at) = do
    o ← part.expr e
    with_field p o at read_place
  expr_node (Expr-F.Length e) = do
    a ← part.expr e
    array_length p a
  expr_node (Expr-F.Element e f) = do
    a ← part.expr e
    i ← part.expr f
    with_element p a i read_place
  expr_node (Expr-F.TextLength e) = do
    s ← part.expr e
    computed p (text_length s)
  expr_node (Expr-F.TextEquals e f) = do
    s ← part.expr e
    t ← part.expr f
    computed p (text_equals s t)
  expr_node (Expr-F.Message e) = do
    o ← part.expr e
    with_field p o message_place read_place
  expr_node (Expr-F.Static m es site) = arguments p part es [] (invoke p part m None)
  expr_node (Expr-F.Chosen e selector es site) = do
    o ← part.expr e
    arguments p part es [] (dispatch p part selector o)
  expr_node (Expr-F.Super m es site) = λ w. arguments p part es [] (invoke p part m w.this) w
  expr_node (Expr-F.New k es) = new_object k es
  expr_node (Expr-F.NewBuilt c message) = new_built_in c message
  expr_node (Expr-F.NewArray t e) = do
    n ← part.expr e
    new_array p t n
  expr_node (Expr-F.Unary op e) = do
    x ← part.expr e
    computed p (unary_value op x)
  expr_node (Expr-F.Binary op e f) = do
    x ← part.expr e
    y ← part.expr f
    computed p (binary_value op x y)
  expr_node (Expr-F.And e f) = do
    x ← part.expr e
    choose x (part.expr f) (gives (outcome.Value (value.Bool false)))
  expr_node (Expr-F.Or e f) = do
    x ← part.expr e
    choose x (gives (outcome.Value (value.Bool true))) (part.expr f)
  expr_node (Expr-F.Cond e f g) = do
    x ← part.expr e
    choose x (part.expr f) (part.expr g)
  expr_node (Expr-F.Cast t e) = do
    v ← part.expr e
    cast p t v
  expr_node (Expr-F.Is t e) = do
    v ← part.expr e
    is_instance p t v
  expr_node (Expr-F.Concat e f) = do
    x ← part.expr e
    y ← part.expr f
    computed p (concatenated x y)
