use Rattle.std.proofs.Common.{◌+◌, ◌-◌, ◌<◌, [], length, arith, subst, ◌∙◌}
use Rattle.std.specs.Prelude.{slice_index, slice_index_or}
use Rattle.std.proofs.lemmas.Bool.{OnFalse_at, OnTrue_at}
use Rattle.std.proofs.lemmas.List.{get_or_read}
use borrow.Author.Count.{below_more}
use Rattle.clause_form.specs.Clauses.{has}
use Rattle.clause_form.specs.Derivation.{HasUnits}
use Rattle.clause_solver.specs.Propagation.{IsPropagated}
use Rattle.clause_solver.specs.Learning.{clause_at, AllFalse}
use Rattle.clause_solver.proofs.Propagated.{IsPropagated-grown, IsPropagated-visited, all-next, visited-at, visited-reasons, visited-paired, visited-decisions, decisions-then, visited-extends, extends-then, extends-length}
use Rattle.clause_solver.proofs.propagate.propagate_one.Goals as goal

pub loop-number-preserved : goal.loop-number-preserved
loop-number-preserved c =
    let clauses = c.args.clauses.now in
    let i = c.loop-number.number-index in
    let k = slice_index c.args.occurrences.now i in
    let t0 = c.loop-number.trail.literals in
    let t1 = c.visit.new.trail.literals in
    let rs0 = c.loop-number.reasons.items in
    let rs1 = c.visit.new.reasons.items in
    let inv = c.loop-number.invariant in
    let bound = c.requires.numbers i c.loop-number-test.true in
    let lt : k - 1 < length clauses = omega (arith, bound.0, bound.1) in
    let v = visited-at clauses t0 t1 rs0 rs1 k c.index-clauses-number.result lt c.index-clauses-number.is c.in_ok-visit.ensures.change in
    let ext = visited-extends t0 t1 rs0 rs1 (clause_at clauses k) k v in
    let long = extends-length c.args.trail.now.literals t0 inv.grown in
    let units = OnFalse_at c.if-branch.false c.in_ok-visit.ensures.units in
    let units_at : HasUnits (λ l. has l t1) (clause_at clauses k) = subst (λ x. HasUnits (λ l. has l t1) x) (get_or_read clauses (k - 1) c.index-clauses-number.result lt c.index-clauses-number.is []) units in
    record {
      variables = c.in_ok-visit.ensures.variables ∙ inv.variables;
      grown = extends-then c.args.trail.now.literals t0 t1 inv.grown ext;
      paired = visited-paired t0 t1 rs0 rs1 (clause_at clauses k) k v inv.paired;
      reasons = visited-reasons clauses t0 t1 rs0 rs1 k bound.1 v inv.paired inv.reasons;
      decisions = decisions-then c.args.reasons.now.items rs0 rs1 inv.decisions (visited-decisions t0 t1 rs0 rs1 (clause_at clauses k) k bound.0 v);
      propagated = λ n d within. IsPropagated-grown c.args.head t0 t1 (slice_index_or clauses n d) ext (omega (arith, long, c.requires.head)) (inv.propagated n d within);
      visited = below_more (λ j. IsPropagated (c.args.head + 1) t1 (clause_at clauses (slice_index c.args.occurrences.now j))) i
          (λ j below. IsPropagated-grown (c.args.head + 1) t0 t1 (clause_at clauses (slice_index c.args.occurrences.now j)) ext (omega (arith, long, c.requires.head)) (inv.visited j below))
          (IsPropagated-visited (c.args.head + 1) t1 (clause_at clauses k) units_at);
    }

pub returns-then-branch-clause-reasons : goal.returns-then-branch-clause-reasons
returns-then-branch-clause-reasons c =
    let clauses = c.args.clauses.now in
    let i = c.loop-number.number-index in
    let k = slice_index c.args.occurrences.now i in
    let inv = c.loop-number.invariant in
    let bound = c.requires.numbers i c.loop-number-test.true in
    let lt : k - 1 < length clauses = omega (arith, bound.0, bound.1) in
    let v = visited-at clauses c.loop-number.trail.literals c.visit.new.trail.literals c.loop-number.reasons.items c.visit.new.reasons.items k c.index-clauses-number.result lt c.index-clauses-number.is c.in_ok-visit.ensures.change in
    visited-reasons clauses c.loop-number.trail.literals c.visit.new.trail.literals c.loop-number.reasons.items c.visit.new.reasons.items k bound.1 v inv.paired inv.reasons

pub returns-clause-propagated : goal.returns-clause-propagated
returns-clause-propagated c =
    let inv = c.loop-number.invariant in
    all-next c.args.clauses.now c.args.trail.now.literals c.loop-number.trail.literals c.args.occurrences.now c.args.head inv.grown c.requires.head c.requires.occurrences inv.propagated
    (λ j below. inv.visited j (omega (arith, c.loop-number-test.false)))

pub returns-then-branch-clause-decisions : goal.returns-then-branch-clause-decisions
returns-then-branch-clause-decisions c =
    let clauses = c.args.clauses.now in
    let k = slice_index c.args.occurrences.now c.loop-number.number-index in
    let inv = c.loop-number.invariant in
    let bound = c.requires.numbers c.loop-number.number-index c.loop-number-test.true in
    let lt : k - 1 < length clauses = omega (arith, bound.0, bound.1) in
    let v = visited-at clauses c.loop-number.trail.literals c.visit.new.trail.literals c.loop-number.reasons.items c.visit.new.reasons.items k c.index-clauses-number.result lt c.index-clauses-number.is c.in_ok-visit.ensures.change in
    decisions-then c.args.reasons.now.items c.loop-number.reasons.items c.visit.new.reasons.items inv.decisions
    (visited-decisions c.loop-number.trail.literals c.visit.new.trail.literals c.loop-number.reasons.items c.visit.new.reasons.items (clause_at clauses k) k bound.0 v)

pub returns-then-branch-clause-conflict : goal.returns-then-branch-clause-conflict
returns-then-branch-clause-conflict c =
    let clauses = c.args.clauses.now in
    let k = slice_index c.args.occurrences.now c.loop-number.number-index in
    let bound = c.requires.numbers c.loop-number.number-index c.loop-number-test.true in
    let lt : k - 1 < length clauses = omega (arith, bound.0, bound.1) in
    let all_false = OnTrue_at c.if-branch.true c.in_ok-visit.ensures.conflict in
    record {
      some = bound.0;
      within = bound.1;
      all_false = subst (λ x. AllFalse x c.visit.new.trail.literals) (get_or_read clauses (k - 1) c.index-clauses-number.result lt c.index-clauses-number.is []) all_false;
    }
