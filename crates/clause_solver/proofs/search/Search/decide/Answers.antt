use Rattle.std.proofs.Common.{◌≡◌, ◌++◌, ◌∷◌, [], refl, ap, arith, length, length-append, w32}
use Rattle.std.specs.Prelude.{slice_index_or}
use Rattle.std.proofs.lemmas.Int.{to_z-of_z}
use Rattle.clause_solver.proofs.Propagated.{IsPropagated-grown}
use Rattle.clause_solver.proofs.Decisions.{decisions-decide, reasons-decide, named-same, saturated-propagated}
use Rattle.clause_solver.proofs.search.Search.decide.Goals as goal

pub returns-clause-kept : goal.returns-clause-kept
returns-clause-kept c =
    let s = c.args.self.now in
    let kept = c.requires.kept in
    let clauses = s.clauses.items in
    let holding = s.trail.literals in
    let l = c.args.literal in
    let literals : c.push-3.new.self.literals ≡ holding ++ l ∷ [] = simp (to_z-of_z w32 l c.ranges.literal) at c.in_ok-push-3.ensures.ok in
    let reasons : c.push-2.new.self.items ≡ s.reasons.items ++ 0 ∷ [] = c.in_ok-push-2.ensures.items in
    let levels : c.push.new.self.items ≡ s.levels.items ++ length holding ∷ [] = rw c.literals.ensures.value at c.in_ok-push.ensures.items in
    let propagated = rw c.requires.quiet at kept.propagated in
    let saturated = saturated-propagated clauses holding s.head c.requires.propagated propagated in
    record {
      named = named-same s.trail c.push-3.new.self clauses c.in_ok-push-3.ensures.variables kept.named;
      full = kept.full;
      paired = omega (arith, kept.paired, ap length literals, ap length reasons, length-append holding (l ∷ []), length-append s.reasons.items (0 ∷ []));
      reasons = rw (literals, reasons) (reasons-decide clauses holding l s.reasons.items kept.paired kept.reasons);
      occurrences = rw c.in_ok-push-3.ensures.variables kept.occurrences;
      decisions = rw (literals, reasons, levels) (decisions-decide clauses holding l s.reasons.items s.levels.items kept.paired saturated kept.decisions);
      head = omega (arith, kept.head, ap length literals, length-append holding (l ∷ []));
      conflict = rw c.requires.quiet (tt {0});
      propagated = rw (c.requires.quiet, literals) (λ k d lt. IsPropagated-grown s.head holding (holding ++ l ∷ []) (slice_index_or clauses k d) (l ∷ [], refl) kept.head (propagated k d lt));
    }
