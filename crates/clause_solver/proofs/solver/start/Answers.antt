use Rattle.std.proofs.Common.{◌≡◌, ◌<◌, ◌∙◌, get_or, sym, ap, subst, [], length, arith}
use Rattle.std.proofs.lemmas.List.{get_or_read}
use Rattle.clause_form.specs.Clauses.{IsFull, has}
use Rattle.clause_form.proofs.Members.{is_literal-has}
use Rattle.clause_solver.proofs.solver.start.Goals as goal

-- the new clause is the given one at the place
clause_is : (c : goal.In_ok-new)
    → c.in_ok-new.field-0 ≡ get_or c.args.clauses.now.clauses.items c.loop-clause.clause-index []
clause_is c =
    let items = c.args.clauses.now.clauses.items in
    let i = c.loop-clause.clause-index in
    let lt : i < length items = omega (arith, c.loop-clause-test.true, ap length c.deref-clause-items.ensures.value) in
    c.in_ok-new.ensures ∙ c.literals-literals.ensures.value ∙ get_or_read items i c.clause-item.result lt (rw c.deref-clause-items.ensures.value at c.clause-item.is) []

pub insert-requires-clause-named : goal.insert-requires-clause-named
insert-requires-clause-named c = λ m h.
    let items = c.args.clauses.now.clauses.items in
    let i = c.loop-clause.clause-index in
    let lt : i < length items = omega (arith, c.loop-clause-test.true, ap length c.deref-clause-items.ensures.value) in
    let named = c.args.clauses.now.named i [] lt m (ap (has m) (sym (clause_is c)) ∙ h) in
    (is_literal-has c.literals-literals.result.now m c.literals-literals.ensures.clause (ap (has m) (sym c.in_ok-new.ensures) ∙ h), omega (arith, named, c.loop-clause.invariant.variables))

pub insert-requires-clause-full : goal.insert-requires-clause-full
insert-requires-clause-full c =
    let items = c.args.clauses.now.clauses.items in
    let i = c.loop-clause.clause-index in
    let lt : i < length items = omega (arith, c.loop-clause-test.true, ap length c.deref-clause-items.ensures.value) in
    subst (λ d. IsFull d) (sym (clause_is c)) (c.requires i [] lt)
