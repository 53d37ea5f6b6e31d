use Rattle.std.proofs.Common.{◌≡◌, subst, ap, ap₂, ◌∙◌, sym, true, w32, rules}
use Rattle.std.specs.Prelude.{FitsSigned as SFits}
use Rattle.std.proofs.lemmas.Int.{to_z-of_z}
use Rattle.clause_form.specs.Clauses.{is_clause}
use Rattle.clause_form.specs.Derivation.{without, union, resolvent}
use Rattle.clause_form.proofs.Members.{is_clause-resolvent, is_literal-has}
use Rattle.clause_form.proofs.clause.Clause.resolvent.Goals as goal

pub negated-requires : goal.negated-requires
negated-requires c =
    let own : is_clause c.args.self.now ≡ true = rw (← c.self.view_is) c.self.invariant in
    rw (to_z-of_z w32 c.args.pivot c.ranges.pivot) (is_literal-has c.args.self.now c.args.pivot own c.requires.here)

-- the literals are those of the resolvent
made : (c : goal.In_ok-literals-2) → c.in_ok-literals-2.literals.items ≡ resolvent c.args.self.now c.args.pivot c.args.with.now
unfolding resolvent
made c =
    let fits : SFits w32 c.negated.result = search rules in
    let p = to_z-of_z w32 c.args.pivot c.ranges.pivot in
    let n = to_z-of_z w32 c.negated.result fits in
    let own = simp p at c.in_ok-literals.ensures in
    let sign = simp p at c.negated.ensures in
    let all = simp n at c.in_ok-literals-2.ensures in
    all ∙ ap₂ (λ x y. union x y)
    (own ∙ ap (λ x. without c.args.pivot x) (c.as_slice.ensures.value ∙ c.self.view_is))
    (ap₂ (λ x y. without x y) sign (c.as_slice-2.ensures.value ∙ c.with.view_is))

pub invariant_of-result : goal.invariant_of-result
invariant_of-result c =
    let own : is_clause c.args.self.now ≡ true = rw (← c.self.view_is) c.self.invariant in
    let other : is_clause c.args.with.now ≡ true = rw (← c.with.view_is) c.with.invariant in
    subst (λ v. is_clause v ≡ true) (sym (made c)) (is_clause-resolvent _ c.args.pivot _ own other)

pub returns : goal.returns
returns c = made c
