use Rattle.std.proofs.Common.{◌≡◌, ◌<◌, ◌∙◌, sym, ap, subst, arith, rules, length, take, [], ◌∷◌, ◌++◌, ◌-◌, true, w32}
use Rattle.std.proofs.lemmas.Int.{to_z-of_z}
use Rattle.std.specs.Prelude.{neg_ℤ, slice_index_or, slice_index, FitsSigned}
use Rattle.clause_form.specs.Clauses.{has}
use Rattle.clause_form.specs.Derivation.{resolvent}
use Rattle.std.proofs.lemmas.List.{get_or_read}
use Rattle.clause_solver.specs.Learning.{AllFalse}
use Rattle.clause_solver.proofs.Places.{has-take_all}
use Rattle.clause_solver.proofs.Analysis.{falls, false_before, get-numbered, MakesClause-push}
use Rattle.clause_solver.proofs.learn.refute.Goals as goal

pub find_latest-latest-requires-clause-all_false : goal.find_latest-latest-requires-clause-all_false
find_latest-latest-requires-clause-all_false c = λ m h.
    has-take_all (neg_ℤ m) c.args.trail.now.literals c.back.below (c.back.invariant.all_false m (rw c.literals-in-back.ensures.value at h))

pub back-smaller : goal.back-smaller
back-smaller c =
    let is = rw c.literals-in-back.ensures.value at c.find_latest-latest.ensures in
    falls c.args.trail.now c.literals-below.ensures.consistent c.back.clause c.find_latest-latest.result is c.back.below c.back.invariant.all_false

pub back-preserved : goal.back-preserved
back-preserved c =
    let a = c.args.trail.now in
    let ok = c.literals-below.ensures.consistent in
    let r = c.find_latest-latest.result in
    let is = rw c.literals-in-back.ensures.value at c.find_latest-latest.ensures in
    let why = c.requires.reasons r.place (omega arith) is.within in
    let number = slice_index c.args.reasons.now r.place in
    let d = slice_index_or c.args.clauses.now (number - 1) [] in
    let fits : FitsSigned w32 r.literal = search rules in
    let z = to_z-of_z w32 r.literal fits in
    let lt : number - 1 < length c.args.clauses.now = omega (arith, why.0, why.1) in
    let made : c.in_ok-clause-2.clause ≡ resolvent c.back.clause r.literal d = simp z at c.in_ok-clause-2.ensures ∙ ap (λ x. resolvent c.back.clause r.literal x) (get_or_read c.args.clauses.now (number - 1) c.index-clauses-reason.result lt c.index-clauses-reason.is []) in
    let here : has r.literal c.back.clause ≡ true = is.among in
    let there : has (neg_ℤ r.literal) d ≡ true = ap (λ l. has l d) (sym is.here) ∙ why.2.among in
    let pushed : c.push.new.self.items ≡ c.back.cuts.items ++ record { pivot = r.literal; with = number } ∷ [] = simp z at c.in_ok-push.ensures.items in
    record {
      made = rw (pushed, made) (MakesClause-push c.args.clauses.now c.args.conflict c.back.cuts.items c.back.clause (record { pivot = r.literal; with = number }) d c.back.invariant.made (get-numbered c.args.clauses.now number why.0 why.1) here there);
      count = omega (arith, is.within);
      all_false = subst (λ x. AllFalse x (take r.place a.literals)) (sym made) (false_before a ok c.back.clause r is d why.2);
    }
