use Rattle.std.proofs.Common.{◌≡◌, ◌∙◌, sym, inl, inr, arith, rules, w32}
use Rattle.std.specs.Prelude.{unsigned_abs, FitsSigned}
use Rattle.std.proofs.lemmas.Int.{to_z-of_z}
use Rattle.std.proofs.lemmas.Bool.{cases_lt}
use Rattle.clause_solver.proofs.Noted.{open_variable, abs-literal}
use Rattle.clause_solver.proofs.order.first_open.Goals as goal

pub loop-index-init : goal.loop-index-init
loop-index-init c = λ m named below. let some = abs-literal m named.0 in absurd (omega arith)

pub loop-index-preserved : goal.loop-index-preserved
loop-index-preserved c = λ m named below. elim (cases_lt c.loop-index.index (unsigned_abs m)) [
  | inr before ↦ c.loop-index.invariant m named before
  | inl here ↦
      let fits : FitsSigned w32 c.literal_at-literal.result = search rules in
      let z = to_z-of_z w32 c.literal_at-literal.result fits in
      let closed = simp z at c.is_open.ensures in
      let variable : unsigned_abs m ≡ unsigned_abs c.literal_at-literal.result = omega (arith, c.literal_at-literal.ensures.variable) in
      open_variable c.args.trail.now m c.literal_at-literal.result variable ∙ sym closed ∙ c.if-is_open.false
]

pub returns-clause-none : goal.returns-clause-none
returns-clause-none c = λ m named. c.loop-index.invariant m named (omega (arith, named.1))
