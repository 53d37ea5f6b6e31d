-- Every expression leaves as few steps as its parts.
use Rattle.std.proofs.Common.{ℕ, true, false, List, [], length, Option, Some, None, slice_get}
use Rattle.std.specs.Option.{option_map_or}
use Rattle.core_tree.specs.declared.expr.Expr.{Expr}
use Rattle.core_tree.specs.declared.expr.Expr.TheOpen.{Expr-F}
use Rattle.core_tree.specs.declared.program.Program.{Program}
use Rattle.heap_arena.specs.declared.cell.Cell.TheVariants as value
use Rattle.heap_arena.specs.Heap.{Value}
use Rattle.evaluation.specs.declared.outcome.Outcome.TheVariants as outcome
use Rattle.evaluation.specs.World.{Run, gives, ◌>>=◌, ◌>>◌}
use Rattle.evaluation.specs.Values.{literal, unary_value, binary_value, concatenated, text_length, text_equals}
use Rattle.evaluation.specs.Objects.{make_instance, computed, read_place, write_cell, with_field, with_element, array_length, new_array, cast, is_instance, message_place}
use Rattle.evaluation.specs.Calls.{Parts, arguments, invoke, dispatch, construct}
use Rattle.evaluation.specs.Evaluate.{this_value, choose, new_object, new_built_in, expr_node}
use Rattle.steps_law.specs.Spending.{Spends, AllSpend}
use Rattle.steps_law.proofs.Parts.{option_spends, then_value, then_normal}
use Rattle.steps_law.proofs.Objects.{value_spends, stuck_spends, make_instance_spends, computed_spends, read_local_spends, read_place_spends, with_field_spends, with_element_spends, array_length_spends, new_array_spends, cast_spends, is_instance_spends}
use Rattle.steps_law.proofs.Calls.{arguments_spend, invoke_spends, dispatch_spends}
use Rattle.steps_law.proofs.Constructors.{started_spends, construct_spends}

this_spends : {most : ℕ} (this : Option ℕ) → Spends most (this_value this)
this_spends None = stuck_spends
this_spends (Some o) = value_spends (value.Ref o)

pub choose_spends : {most : ℕ} (v : Value) (first second : Run) → Spends most first → Spends most second → Spends most (choose v first second)
choose_spends (value.Bool true) first second where_true where_false = where_true
choose_spends (value.Bool false) first second where_true where_false = where_false
choose_spends _ first second where_true where_false = stuck_spends

module _ {most : ℕ} (p : Program) (part : Parts) (all : AllSpend most part) where
  -- an expression, and what is done with its value
  pub one : (e : Expr) (go : Value → Run) → ((v : Value) → Spends most (go v)) → Spends most (part.expr e >>= go)
  one e go next = then_value (part.expr e) go (all.expr e) next

  -- two expressions from left to right, and what is done with their values
  pub two : (e f : Expr) (go : Value → Value → Run) → ((v u : Value) → Spends most (go v u)) → Spends most (part.expr e >>= (λ v. part.expr f >>= go v))
  two e f go next = one e (λ v. part.expr f >>= go v) (λ v. one f (go v) (next v))

  new_object_spends : (k : ℕ) (es : List Expr) → Spends most (new_object p part k es)
  new_object_spends k es =
      option_spends (slice_get p.makers k) (λ maker. make_instance p maker.owner (λ o. arguments p part es [] (λ args. construct p part (length p.classes) k o args >> gives (outcome.Value (value.Ref o))))) (gives outcome.Stuck) (λ maker.
      make_instance_spends p maker.owner (λ o. arguments p part es [] (λ args. construct p part (length p.classes) k o args >> gives (outcome.Value (value.Ref o)))) (λ o.
      arguments_spend p part all es [] (λ args. construct p part (length p.classes) k o args >> gives (outcome.Value (value.Ref o))) (λ args.
      then_normal (construct p part (length p.classes) k o args) (gives (outcome.Value (value.Ref o))) (construct_spends p part all (length p.classes) k o args) (value_spends (value.Ref o))))) stuck_spends

  new_built_in_spends : (c : ℕ) (message : Option Expr) → Spends most (new_built_in p part c message)
  new_built_in_spends c message =
      make_instance_spends p c (λ o. option_map_or (λ e. part.expr e >>= (λ v. write_cell o message_place v)) message (gives outcome.Normal) >> gives (outcome.Value (value.Ref o))) (λ o.
      then_normal (option_map_or (λ e. part.expr e >>= (λ v. write_cell o message_place v)) message (gives outcome.Normal)) (gives (outcome.Value (value.Ref o))) (started_spends p part all o message_place message) (value_spends (value.Ref o)))

  pub expr_spends : (x : Expr-F Expr) → Spends most (expr_node p part x)
  expr_spends (Expr-F.Int n) = value_spends (value.Int n)
  expr_spends (Expr-F.Bool b) = value_spends (value.Bool b)
  expr_spends (Expr-F.Text text) = computed_spends p (literal (value.Text text))
  expr_spends Expr-F.Null = value_spends value.Null
  expr_spends Expr-F.This = record { leaves = λ w within. (this_spends w.this).leaves w within }
  expr_spends (Expr-F.Local at) = read_local_spends at
  expr_spends (Expr-F.Field e at) = one e (λ o. with_field p o at read_place) (λ o. with_field_spends p o at read_place read_place_spends)
  expr_spends (Expr-F.Length e) = one e (array_length p) (array_length_spends p)
  expr_spends (Expr-F.Element e f) = two e f (λ a i. with_element p a i read_place) (λ a i. with_element_spends p a i read_place read_place_spends)
  expr_spends (Expr-F.TextLength e) = one e (λ s. computed p (text_length s)) (λ s. computed_spends p (text_length s))
  expr_spends (Expr-F.TextEquals e f) = two e f (λ s t. computed p (text_equals s t)) (λ s t. computed_spends p (text_equals s t))
  expr_spends (Expr-F.Message e) = one e (λ o. with_field p o message_place read_place) (λ o. with_field_spends p o message_place read_place read_place_spends)
  expr_spends (Expr-F.Static m es site) = arguments_spend p part all es [] (invoke p part m None) (invoke_spends p part all m None)
  expr_spends (Expr-F.Chosen e selector es site) = one e (λ o. arguments p part es [] (dispatch p part selector o)) (λ o. arguments_spend p part all es [] (dispatch p part selector o) (dispatch_spends p part all selector o))
  expr_spends (Expr-F.Super m es site) = record { leaves = λ w within. (arguments_spend p part all es [] (invoke p part m w.this) (invoke_spends p part all m w.this)).leaves w within }
  expr_spends (Expr-F.New k es) = new_object_spends k es
  expr_spends (Expr-F.NewBuilt c message) = new_built_in_spends c message
  expr_spends (Expr-F.NewArray t e) = one e (new_array p t) (new_array_spends p t)
  expr_spends (Expr-F.Unary op e) = one e (λ x. computed p (unary_value op x)) (λ x. computed_spends p (unary_value op x))
  expr_spends (Expr-F.Binary op e f) = two e f (λ x y. computed p (binary_value op x y)) (λ x y. computed_spends p (binary_value op x y))
  expr_spends (Expr-F.And e f) = one e (λ x. choose x (part.expr f) (gives (outcome.Value (value.Bool false)))) (λ x. choose_spends x (part.expr f) (gives (outcome.Value (value.Bool false))) (all.expr f) (value_spends (value.Bool false)))
  expr_spends (Expr-F.Or e f) = one e (λ x. choose x (gives (outcome.Value (value.Bool true))) (part.expr f)) (λ x. choose_spends x (gives (outcome.Value (value.Bool true))) (part.expr f) (value_spends (value.Bool true)) (all.expr f))
  expr_spends (Expr-F.Cond e f g) = one e (λ x. choose x (part.expr f) (part.expr g)) (λ x. choose_spends x (part.expr f) (part.expr g) (all.expr f) (all.expr g))
  expr_spends (Expr-F.Cast t e) = one e (cast p t) (cast_spends p t)
  expr_spends (Expr-F.Is t e) = one e (is_instance p t) (is_instance_spends p t)
  expr_spends (Expr-F.Concat e f) = two e f (λ x y. computed p (concatenated x y)) (λ x y. computed_spends p (concatenated x y))
