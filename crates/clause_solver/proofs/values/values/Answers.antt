use Rattle.std.proofs.Common.{◌≡◌, ◌∙◌, ◌++◌, ◌∷◌, [], ◌+◌, pos, get_or, sym, ap, inl, inr, false, length, length-append, arith, rules, w32}
use Rattle.std.specs.Prelude.{FitsSigned}
use Rattle.std.proofs.lemmas.Int.{to_z-of_z}
use Rattle.std.proofs.lemmas.Bool.{cases_lt}
use Rattle.std.proofs.lemmas.List.{get_or_append_left}
use Rattle.clause_form.specs.Clauses.{has}
use Rattle.clause_solver.proofs.Decisions.{last_item}
use Rattle.clause_solver.proofs.Satisfying.{values-true}
use Rattle.clause_solver.proofs.values.values.Goals as goal

pub loop-index-preserved : goal.loop-index-preserved
loop-index-preserved c =
    let old = c.loop-index.values.items in
    let i = c.loop-index.index in
    let pushed : c.push.new.self.items ≡ old ++ c.holds.result ∷ [] = c.in_ok-push.ensures.items in
    let fits : FitsSigned w32 c.literal_at.result = search rules in
    let here : c.holds.result ≡ has (pos (i + 1)) c.args.trail.now.literals = simp (to_z-of_z w32 c.literal_at.result fits) at c.holds.ensures.value ∙ ap (λ l. has l c.args.trail.now.literals) c.literal_at.ensures.value in
    record {
      count = omega (arith, ap length pushed, length-append old (c.holds.result ∷ []), c.loop-index.invariant.count);
      so_far = λ n lt. elim (cases_lt n i) [
        | inl before ↦ ap (λ xs. get_or xs n false) pushed ∙ get_or_append_left old (c.holds.result ∷ []) false n (omega (arith, c.loop-index.invariant.count)) ∙ c.loop-index.invariant.so_far n before
        | inr after ↦
            let last : n ≡ i = omega arith in
            ap (λ xs. get_or xs n false) pushed ∙ last_item old c.holds.result false n (omega (arith, c.loop-index.invariant.count)) ∙ here ∙ ap (λ k. has (pos (k + 1)) c.args.trail.now.literals) (sym last)
      ];
    }

pub returns-clause-values : goal.returns-clause-values
returns-clause-values c =
    let all : c.loop-index.index ≡ c.args.trail.now.variables = omega (arith, c.loop-index-test.false, c.variables-index-end.ensures.value) in
    record {
      count = omega (arith, c.loop-index.invariant.count);
      true_so = values-true c.args.trail.now c.loop-index.values.items c.variables-index-end.ensures.consistent (λ n lt. c.loop-index.invariant.so_far n (omega (arith, all)));
    }
