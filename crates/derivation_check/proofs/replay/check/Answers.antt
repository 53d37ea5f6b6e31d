use Rattle.std.proofs.Common.{◌≡◌, ◌∙◌, sym, ap, subst, arith, rules, length, [], ◌∷◌, ◌++◌, ◌+◌, ◌<◌, drop, Some, length-append}
use Rattle.std.proofs.lemmas.List.{drop_more}
use Rattle.clause_form.specs.declared.derivation.Line.{Line}
use Rattle.clause_form.specs.Clauses.{Holds}
use Rattle.clause_form.specs.Derivation.{clause_of, derived_after}
use Rattle.clause_form.proofs.Chains.{Holds-push, derived_after-made}
use Rattle.derivation_check.proofs.replay.check.Goals as goal

pub loop-line-preserved : goal.loop-line-preserved
loop-line-preserved c =
    let given = c.args.clauses.now.clauses.items in
    let old = c.loop-line.made.items in
    let pushed : c.push.new.self.items ≡ old ++ c.in-Some.clause ∷ [] = search rules in
    let fact : clause_of (given ++ old) c.line-item.result ≡ Some c.in-Some.clause = rw (c.as_slice-given.ensures.value, c.as_slice.ensures.value) at (sym c.in_ok-clause.ensures ∙ c.in-Some.is) in
    let lt : c.loop-line.line-index < length c.args.log.now = omega arith in
    let cut : drop c.loop-line.line-index c.args.log.now ≡ c.line-item.result ∷ drop (c.loop-line.line-index + 1) c.args.log.now = drop_more c.args.log.now c.loop-line.line-index c.line-item.result lt ∙ ap (λ (x : Line). x ∷ drop (c.loop-line.line-index + 1) c.args.log.now) (sym c.line-item.is) in
    record {
      count = omega arith;
      made_so_far = ap length pushed ∙ simp length-append (omega arith);
      rest = c.loop-line.invariant.rest ∙ ap (λ x. derived_after given old x) cut ∙ derived_after-made given old c.line-item.result _ _ fact ∙ ap (λ m. derived_after given m (drop (c.loop-line.line-index + 1) c.args.log.now)) (sym pushed);
      follows = λ a h. subst (λ m. Holds m a) (sym pushed) (Holds-push a given old c.line-item.result c.in-Some.clause h (c.loop-line.invariant.follows a h) fact);
    }
