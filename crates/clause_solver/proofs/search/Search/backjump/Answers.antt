use Rattle.std.proofs.Common.{◌≡◌, ◌∙◌, ap, take, length, arith}
use Rattle.std.specs.Prelude.{slice_index}
use Rattle.std.proofs.lemmas.List.{length-take-le}
use Rattle.clause_solver.proofs.Decisions.{decisions-back, reasons-back, named-same, propagated-saturated}
use Rattle.clause_solver.proofs.search.Search.backjump.Goals as goal

pub returns-clause-kept : goal.returns-clause-kept
returns-clause-kept c =
    let s = c.args.self.now in
    let kept = c.requires.kept in
    let clauses = s.clauses.items in
    let holding = s.trail.literals in
    let popped = c.pop_levels-start.ensures in
    let t = slice_index s.levels.items popped.place in
    let within = kept.decisions.within popped.place popped.within in
    let literals : c.truncate.new.self.literals ≡ take t holding = c.truncate.ensures.literals ∙ ap (λ n. take n holding) popped.start_is in
    let reasons : c.truncate-2.new.self.items ≡ take t s.reasons.items = c.truncate-2.ensures.items ∙ ap (λ n. take n s.reasons.items) popped.start_is in
    let long = length-take-le t holding (omega (arith, within)) in
    record {
      named = named-same s.trail c.truncate.new.self clauses c.truncate.ensures.variables kept.named;
      full = kept.full;
      paired = omega (arith, ap length literals, ap length reasons, long, length-take-le t s.reasons.items (omega (arith, within, kept.paired)));
      reasons = rw (literals, reasons) (reasons-back clauses holding s.reasons.items t (omega (arith, within)) kept.reasons);
      occurrences = rw c.truncate.ensures.variables kept.occurrences;
      decisions = rw (literals, reasons, popped.kept) (decisions-back clauses holding s.reasons.items s.levels.items popped.place popped.within kept.decisions);
      head = omega (arith, ap length literals, long, popped.start_is);
      conflict = tt {0};
      propagated = rw literals (propagated-saturated clauses (take t holding) c.pop_levels-start.result (kept.decisions.saturated popped.place popped.within));
    }
