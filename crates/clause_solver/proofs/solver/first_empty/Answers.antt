use Rattle.std.proofs.Common.{◌≡◌, ◌<◌, ◌∙◌, ◌+◌, ◌-◌, sym, ap, subst, [], length, Some, arith}
use Rattle.std.specs.Prelude.{slice_index_or}
use Rattle.std.specs.List.{All}
use Rattle.std.proofs.lemmas.Grind.{common_steps}
use Rattle.std.proofs.lemmas.Bool.{both_ways, eqb-true, eq-eqb}
use Rattle.std.proofs.lemmas.List.{get_or_read}
use Rattle.std.proofs.lemmas.List.Elements.{All-more, at_read}
use Rattle.clause_form.specs.Clauses.{IsFull}
use Rattle.clause_solver.proofs.Analysis.{get-numbered}
use Rattle.clause_solver.proofs.Satisfying.{full-from, empty-from}
use Rattle.clause_solver.proofs.solver.first_empty.Goals as goal

pub returns-then-is_empty-clause-some : goal.returns-then-is_empty-clause-some
returns-then-is_empty-clause-some c =
    let items = c.args.clauses.now in
    let i = c.loop-clause.clause-index in
    let lt : i < length items = c.loop-clause-test.true in
    let none : length c.clause-item.result ≡ 0 = ap length (sym c.literals.ensures.value) ∙ eqb-true (length c.literals.result.now) 0 (sym c.if-is_empty.ensures) in
    let number : c.loop-clause.number + 1 - 1 ≡ i = omega (arith, c.loop-clause.invariant.count) in
    get-numbered items (c.loop-clause.number + 1) (omega arith) (omega (arith, c.loop-clause.invariant.count))
    ∙ ap Some (ap (λ k. slice_index_or items k []) number ∙ sym (get_or_read items i c.clause-item.result lt c.clause-item.is []) ∙ empty-from c.clause-item.result none)

pub loop-clause-preserved : goal.loop-clause-preserved
loop-clause-preserved c =
    let items = c.args.clauses.now in
    let i = c.loop-clause.clause-index in
    let lt : i < length items = c.loop-clause-test.true in
    let full : IsFull c.clause-item.result = full-from c.clause-item.result (λ e. both_ways _ (sym c.if-is_empty.ensures) (eq-eqb (length c.literals.result.now) 0 (ap length c.literals.ensures.value ∙ e))) in
    record {
      count = omega arith;
      full = All-more IsFull items i [] lt c.loop-clause.invariant.full (at_read items IsFull i c.clause-item.result lt c.clause-item.is full []);
    }

pub returns-clause-none : goal.returns-clause-none
returns-clause-none c =
    let items = c.args.clauses.now in
    subst (λ ds. All IsFull ds) (let all = c.loop-clause-test.false in grind (arith, common_steps)) c.loop-clause.invariant.full
