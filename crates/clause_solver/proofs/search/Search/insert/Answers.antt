use Rattle.std.proofs.Common.{◌≡◌, ◌+◌, ap, arith, length, refl, Some}
use Rattle.std.proofs.lemmas.Bool.{OnFalse_at, OnTrue_at}
use Rattle.clause_solver.specs.declared.search.Search.{Search}
use Rattle.clause_solver.proofs.Decisions.{none_owed}
use Rattle.clause_solver.proofs.Inserting.{inserted, conflict-inserted, conflict-remains, none_both, none_any}
use Rattle.clause_solver.proofs.search.Search.insert.Goals as goal
use Rattle.clause_solver.proofs.search.Search.insert.Goals.{else-is_false-via-then-is_false+else-is_none, else-is_false-via-else-is_false}

pub returns-then-is_none-clause-kept : goal.returns-then-is_none-clause-kept
returns-then-is_none-clause-kept c =
    let s = c.args.self.now in
    let kept = c.requires.kept in
    let number = length c.as_slice.result.now + 1 in
    let last : number ≡ length s.clauses.items + 1 = omega (arith, ap length c.as_slice.ensures.value) in
    let facts = c.in_ok-is_false.ensures in
    let clauses = c.in_ok-push.ensures.items in
    let noted = rw c.literals.ensures.value at c.in_ok-add.ensures in
    let t : Search = record { alloc = s.alloc; trail = c.visit.new.trail; reasons = c.visit.new.reasons; clauses = c.push.new.self; occurrences = c.add.new.self; levels = s.levels; head = s.head; conflict = Some number; order = s.order } in
    inserted s t kept c.args.clause number last facts.variables facts.change clauses c.requires.named c.requires.full c.requires.at_levels noted refl refl
    (conflict-inserted s t kept c.args.clause number last facts.variables facts.change clauses (OnTrue_at c.if-is_false.true facts.conflict))
    (tt {0})

pub returns-else-is_false-clause-kept : goal.returns-else-is_false-clause-kept
returns-else-is_false-clause-kept c =
    let s = c.args.self.now in
    let kept = c.requires.kept in
    let number = length c.as_slice.result.now + 1 in
    let last : number ≡ length s.clauses.items + 1 = omega (arith, ap length c.as_slice.ensures.value) in
    let facts = c.in_ok-is_false.ensures in
    let clauses = c.in_ok-push.ensures.items in
    let noted = rw c.literals.ensures.value at c.in_ok-add.ensures in
    let t : Search = record { alloc = s.alloc; trail = c.visit.new.trail; reasons = c.visit.new.reasons; clauses = c.push.new.self; occurrences = c.add.new.self; levels = s.levels; head = s.head; conflict = s.conflict; order = s.order } in
    inserted s t kept c.args.clause number last facts.variables facts.change clauses c.requires.named c.requires.full c.requires.at_levels noted refl refl
    (conflict-remains s t kept c.args.clause number last facts.variables facts.change clauses)
    (elim c.else-is_false.branch [
      | else-is_false-via-then-is_false+else-is_none w ↦ none_owed s.conflict _ w.if-is_none.ensures
      | else-is_false-via-else-is_false w ↦ none_both s.conflict _ _ kept.propagated (none_any s.conflict _ (OnFalse_at w.if-is_false.false facts.units))
    ])
