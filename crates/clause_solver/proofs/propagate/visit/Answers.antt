use Rattle.std.proofs.Common.{◌≡◌, ◌<◌, ◌∙◌, sym, ap, subst, arith, rules, length, true, false, w32, take, ◌+◌}
use Rattle.std.specs.Prelude.{neg_ℤ, FitsSigned}
use Rattle.std.proofs.lemmas.Int.{to_z-of_z}
use Rattle.std.proofs.lemmas.Bool.{and_parts}
use Rattle.clause_form.specs.Clauses.{has, is_distinct}
use Rattle.clause_form.specs.Derivation.{HasUnits}
use Rattle.clause_solver.specs.Assigned.{at}
use Rattle.clause_solver.specs.Propagation.{IsScanned}
use Rattle.clause_solver.proofs.Places.{place-has}
use Rattle.clause_solver.proofs.Scanning.{scanned-false, scanned-open, units-held, units-two}
use Rattle.clause_solver.proofs.propagate.visit.Goals as goal
use Rattle.clause_solver.proofs.propagate.visit.Goals.{then-is_some-via-then-is_some, then-is_some-via-else-is_some+then-holds, then-not-holds+else-is_some+else-holds, else-not-holds}

pub returns-then-is_some-clause-units : goal.returns-then-is_some-clause-units
returns-then-is_some-clause-units c =
    let a = c.args.trail.now in
    let literals = c.literals-literals.result.now in
    let i = c.loop-literal.literal-index in
    let x = at literals i in
    let lt : i < length literals = omega arith in
    let fits : FitsSigned w32 x = search rules in
    let fits_negated : FitsSigned w32 c.negated.result = search rules in
    let z = to_z-of_z w32 x fits in
    let n : c.negated.result ≡ neg_ℤ x = simp z at c.negated.ensures in
    let f : has (neg_ℤ x) a.literals ≡ false = ap (λ l. has l a.literals) (sym n) ∙ sym (simp (to_z-of_z w32 c.negated.result fits_negated) at c.holds.ensures.value) ∙ c.if-not-holds.true in
    let distinct : is_distinct literals ≡ true = (and_parts _ _ c.literals-literals.ensures.clause).1 in
    subst (λ d. HasUnits (λ l. has l a.literals) d) c.literals-literals.ensures.value (elim c.then-is_some.branch [
      | then-is_some-via-then-is_some w ↦ units-two a.literals literals i c.loop-literal.unit lt distinct (sym c.is_some.ensures ∙ w.if-is_some.true) c.loop-literal.invariant f
      | then-is_some-via-else-is_some+then-holds w ↦
          units-held a c.holds.ensures.consistent literals x (place-has literals i lt) (sym (simp z at w.holds-else-is_some.ensures.value) ∙ w.if-holds.true)
    ])

pub loop-literal-preserved : goal.loop-literal-preserved
loop-literal-preserved c =
    let a = c.args.trail.now in
    let literals = c.literals-literals.result.now in
    let i = c.loop-literal.literal-index in
    let x = at literals i in
    let lt : i < length literals = omega arith in
    let fits : FitsSigned w32 x = search rules in
    let fits_negated : FitsSigned w32 c.negated.result = search rules in
    let z = to_z-of_z w32 x fits in
    let n : c.negated.result ≡ neg_ℤ x = simp z at c.negated.ensures in
    let held = ap (λ l. has l a.literals) (sym n) ∙ sym (simp (to_z-of_z w32 c.negated.result fits_negated) at c.holds.ensures.value) in
    elim c.if-not-holds.branch [
      | then-not-holds+else-is_some+else-holds w ↦ subst (λ u. IsScanned a.literals (take (i + 1) literals) u) (sym (simp z at w.unit-is)) (scanned-open a.literals literals i c.loop-literal.unit lt (sym w.is_some.ensures ∙ w.if-is_some.false) c.loop-literal.invariant (held ∙ w.if-not-holds.true) (sym (simp z at w.holds-else-is_some.ensures.value) ∙ w.if-holds.false))
      | else-not-holds w ↦ subst (λ u. IsScanned a.literals (take (i + 1) literals) u) (sym w.unit-is) (scanned-false a.literals literals i c.loop-literal.unit c.loop-literal.invariant (held ∙ w.if-not-holds.false))
    ]
