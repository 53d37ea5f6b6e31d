use Rattle.std.proofs.Common.{◌≡◌, ◌<◌, ◌∙◌, sym, subst, true, [], length, arith, refl}
use Rattle.std.proofs.lemmas.Grind.{common_steps}
use Rattle.std.specs.List.{list_any, All}
use Rattle.std.proofs.lemmas.List.Elements.{All-more, at_read}
use Rattle.clause_form.specs.Clauses.{value, listed}
use Rattle.clause_form.proofs.clauses.Clauses.satisfied.Goals as goal

pub loop-clause-preserved : goal.loop-clause-preserved
loop-clause-preserved c =
    let items = c.args.self.now.clauses.items in
    let lt : c.loop-clause.clause-index < length items = omega arith in
    let here : list_any (value (listed c.args.assignment.now)) c.clause-item.result ≡ true = sym c.satisfied.ensures ∙ c.if-not-satisfied.false in
    All-more (λ d. list_any (value (listed c.args.assignment.now)) d ≡ true) items c.loop-clause.clause-index [] lt c.loop-clause.invariant
    (at_read items (λ d. list_any (value (listed c.args.assignment.now)) d ≡ true) c.loop-clause.clause-index c.clause-item.result lt (rw c.deref-clause-items.ensures.value at c.clause-item.is) here [])

pub returns : goal.returns
returns c =
    let items = c.args.self.now.clauses.items in
    let all : c.loop-clause.clause-index ≡ length items = omega arith in
    (λ _. subst (λ ds. All (λ d. list_any (value (listed c.args.assignment.now)) d ≡ true) ds) (grind (arith, common_steps)) c.loop-clause.invariant, λ _. refl)
