-- Blocks, arguments and calls leave as few steps as their parts.
use Rattle.std.proofs.Common.{◌+◌, ◌==◌, ◌++◌, ◌∷◌, ℕ, nat_lt, List, [], map, Option, Some, None, slice_get}
use Rattle.std.specs.Option.{option_map_or}
use Rattle.core_tree.specs.declared.ty.Ty.{Ty}
use Rattle.core_tree.specs.declared.built_in.BuiltIn.TheVariants as class
use Rattle.core_tree.specs.declared.expr.Expr.{Expr}
use Rattle.core_tree.specs.declared.stmt.Stmt.{Stmt}
use Rattle.core_tree.specs.declared.program.Program.{Program}
use Rattle.core_tree.specs.Typing.{chosen_number}
use Rattle.heap_arena.specs.Heap.{Value, default_of, class_at}
use Rattle.evaluation.specs.declared.outcome.Outcome.{Outcome}
use Rattle.evaluation.specs.declared.outcome.Outcome.TheVariants as outcome
use Rattle.evaluation.specs.World.{World, Answer, Run, gives}
use Rattle.evaluation.specs.Objects.{trap, read_cell, message_place}
use Rattle.evaluation.specs.Calls.{Parts, most_live, returned, leave, called, block, arguments, run_method, invoke, built_in_message, dispatch_in, dispatch}
use Rattle.steps_law.specs.Spending.{NoneIfSpent, Leaves, Spends, AllSpend}
use Rattle.steps_law.proofs.Parts.{takes_spends, if_leaves, if_spends, option_leaves, option_spends, then_value, then_normal}
use Rattle.steps_law.proofs.Objects.{normal_spends, stuck_spends, trap_spends, read_cell_spends, with_object_spends}

-- ---- bodies

-- what a call makes of the end of its body: Spent of no other outcome
abbrev pub KeepsSpent : (Outcome → Outcome) → Type 0
KeepsSpent end = (o : Outcome) (left : ℕ) → NoneIfSpent o left → NoneIfSpent (end o) left

returned_keeps : (t : Ty) → KeepsSpent (returned t)
returned_keeps t outcome.Normal left none = tt
returned_keeps t (outcome.Return None) left none = tt
returned_keeps t (outcome.Return (Some v)) left none = tt
returned_keeps t _ left none = none

leave_leaves : (most : ℕ) (end : Outcome → Outcome) (this : Option ℕ) (locals : List Value) (a : Answer) → KeepsSpent end → Leaves most a → Leaves most (leave end this locals a)
leave_leaves most end this locals a keeps leaves = record { within = leaves.within; none = keeps a.outcome a.world.fuel leaves.none }

pub called_spends : {most : ℕ} (p : Program) (end : Outcome → Outcome) (this : Option ℕ) (args : List Value) (locals : List Ty) (body : Run) → KeepsSpent end → Spends most body → Spends most (called p end this args locals body)
called_spends p end this args locals body keeps spends = record {
  leaves = λ w within. if_leaves (nat_lt w.live most_live) (leave end w.this w.locals (body (inner w))) (trap p class.StackOverflowError w)
      (leave_leaves w.fuel end w.this w.locals (body (inner w)) keeps (spends.leaves (inner w) within)) ((trap_spends p class.StackOverflowError).leaves w within);
}
  where
    inner : World → World
    inner w = record w { this = this; locals = args ++ map default_of locals; live = w.live + 1 }

module _ {most : ℕ} (p : Program) (part : Parts) (all : AllSpend most part) where
  -- ---- statements and arguments in order

  pub block_spends : (ss : List Stmt) → Spends most (block p part ss)
  block_spends [] = normal_spends
  block_spends (s ∷ ss) = then_normal (part.stmt s) (block p part ss) (takes_spends (all.stmt s)) (block_spends ss)

  pub arguments_spend : (es : List Expr) (got : List Value) (go : List Value → Run) → ((args : List Value) → Spends most (go args)) → Spends most (arguments p part es got go)
  arguments_spend [] got go next = next got
  arguments_spend (e ∷ es) got go next = then_value (part.expr e) (λ v. arguments p part es (got ++ v ∷ []) go) (all.expr e) (λ v. arguments_spend es (got ++ v ∷ []) go next)

  -- ---- methods

  pub invoke_spends : (m : ℕ) (this : Option ℕ) (args : List Value) → Spends most (invoke p part m this args)
  invoke_spends m this args =
      option_spends (slice_get p.methods m) (λ method. run_method p part method this args) (gives outcome.Stuck)
      (λ method. called_spends p (returned method.answer) this args method.locals (block p part method.body) (returned_keeps method.answer) (block_spends method.body)) stuck_spends

  message_spends : (selector o : ℕ) → Spends most (built_in_message p part selector o)
  message_spends selector o = if_spends (selector == 0) (read_cell o message_place) (gives outcome.Stuck) (read_cell_spends o message_place) stuck_spends

  picked_spends : (selector o : ℕ) (args : List Value) (found : Option ℕ) → Spends most (dispatch_in p part selector o args found)
  picked_spends selector o args (Some m) = invoke_spends m (Some o) args
  picked_spends selector o args None = message_spends selector o

  on_object : ℕ → List Value → ℕ → Run
  on_object selector args o w = option_map_or (λ c. dispatch_in p part selector o args (chosen_number p c selector) w) (class_at w.now o) (gives outcome.Stuck w)

  pub dispatch_spends : (selector : ℕ) (v : Value) (args : List Value) → Spends most (dispatch p part selector v args)
  unfolding on_object
  dispatch_spends selector v args =
      with_object_spends p v (on_object selector args) (λ o. record {
        leaves = λ w within.
            option_leaves (class_at w.now o) (λ c. dispatch_in p part selector o args (chosen_number p c selector) w) (gives outcome.Stuck w)
            (λ c. (picked_spends selector o args (chosen_number p c selector)).leaves w within) (stuck_spends.leaves w within);
      })
