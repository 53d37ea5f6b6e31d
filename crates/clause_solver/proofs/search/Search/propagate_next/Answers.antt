use Rattle.std.proofs.Common.{◌≡◌, ap, arith, rules, w32}
use Rattle.std.specs.Prelude.{neg_ℤ, unsigned_abs, FitsSigned}
use Rattle.std.proofs.lemmas.Int.{to_z-of_z}
use Rattle.clause_solver.specs.Assigned.{at}
use Rattle.clause_solver.proofs.Places.{place-has, abs-negated}
use Rattle.clause_solver.proofs.Propagated.{extends-length}
use Rattle.clause_solver.proofs.Decisions.{decisions-grown, named-same, none_owed}
use Rattle.clause_solver.proofs.search.Search.propagate_next.Goals as goal

pub of-occurrences-requires-clause-within : goal.of-occurrences-requires-clause-within
of-occurrences-requires-clause-within c =
    let s = c.args.self.now in
    let holding = s.trail.literals in
    let l = at holding s.head in
    let fits : FitsSigned w32 c.negated.result = search rules in
    let own : FitsSigned w32 l = search rules in
    let value : c.negated.result ≡ neg_ℤ l = simp (to_z-of_z w32 l own) at (rw c.literals.ensures.value at c.negated.ensures) in
    let named = (c.literals.ensures.consistent.named l (place-has holding s.head c.requires.more)).1 in
    rw (to_z-of_z w32 c.negated.result fits)
    (omega (arith, named, c.requires.kept.occurrences.size, ap unsigned_abs value, abs-negated l))

pub returns-then-is_none-clause-kept : goal.returns-then-is_none-clause-kept
returns-then-is_none-clause-kept c =
    let s = c.args.self.now in
    let kept = c.requires.kept in
    let clauses = s.clauses.items in
    let facts = c.in_ok-self.ensures in
    let each = c.as_slice.ensures.value in
    let long = extends-length s.trail.literals c.propagate_one.new.trail.literals facts.grown in
    record {
      named = named-same s.trail c.propagate_one.new.trail clauses facts.variables kept.named;
      full = kept.full;
      paired = facts.paired;
      reasons = rw each at facts.reasons;
      occurrences = rw facts.variables kept.occurrences;
      decisions = decisions-grown clauses s.trail.literals c.propagate_one.new.trail.literals s.reasons.items c.propagate_one.new.reasons.items s.levels.items facts.grown kept.paired facts.paired facts.decisions kept.decisions;
      head = omega (arith, long, c.requires.more);
      conflict = rw each at facts.conflict;
      propagated = rw each at facts.propagated;
    }

pub returns-else-is_none-clause-kept : goal.returns-else-is_none-clause-kept
returns-else-is_none-clause-kept c =
    let s = c.args.self.now in
    let kept = c.requires.kept in
    let clauses = s.clauses.items in
    let facts = c.in_ok-self.ensures in
    let each = c.as_slice.ensures.value in
    let long = extends-length s.trail.literals c.propagate_one.new.trail.literals facts.grown in
    record {
      named = named-same s.trail c.propagate_one.new.trail clauses facts.variables kept.named;
      full = kept.full;
      paired = facts.paired;
      reasons = rw each at facts.reasons;
      occurrences = rw facts.variables kept.occurrences;
      decisions = decisions-grown clauses s.trail.literals c.propagate_one.new.trail.literals s.reasons.items c.propagate_one.new.reasons.items s.levels.items facts.grown kept.paired facts.paired facts.decisions kept.decisions;
      head = omega (arith, long, c.requires.more);
      conflict = rw each at facts.conflict;
      propagated = none_owed c.in_ok-self.field-0 _ c.if-is_none.ensures;
    }
