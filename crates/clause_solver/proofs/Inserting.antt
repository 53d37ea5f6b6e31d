-- The search with one clause more.
use Rattle.std.proofs.Common.{◌≡◌, ℕ, ◌+◌, ◌-◌, ℤ, List, [], ◌∷◌, ◌++◌, length, sym, subst, arith, length-append, Option, Some, None}
use Rattle.std.specs.Prelude.{slice_index_or, IfSome, IfNone}
use Rattle.std.specs.List.{All}
use Rattle.std.proofs.lemmas.List.Elements.{All-push}
use Rattle.clause_form.specs.Clauses.{has, IsFull}
use Rattle.clause_form.specs.Derivation.{HasUnits}
use Rattle.clause_solver.specs.Learning.{AllFalse, IsConflict, clause_at}
use Rattle.clause_solver.specs.Propagation.{IsPropagated, AreNamed, Visited}
use Rattle.clause_solver.specs.Occurrences.{Noted}
use Rattle.clause_solver.specs.Searching.{IsSearch, AtLevels}
use Rattle.clause_solver.specs.declared.search.Search.{Search}
use Rattle.clause_solver.proofs.Propagated.{IsPropagated-grown, IsPropagated-visited, visited-extends, visited-paired, visited-reasons, visited-decisions, extends-length}
use Rattle.clause_solver.proofs.OccurrenceLists.{occurrences-more}
use Rattle.clause_solver.proofs.Decisions.{last_item, decisions-grown, decisions-more, reasons-more, conflict-grown, named-same}

pub some_map : (o : Option ℕ) (P Q : ℕ → Type 0) → ((k : ℕ) → P k → Q k) → IfSome o P → IfSome o Q
some_map None P Q f h = tt
some_map (Some k) P Q f h = f k h

none_map : (o : Option ℕ) (P Q : Type 0) → (P → Q) → IfNone o P → IfNone o Q
none_map None P Q f h = f h
none_map (Some k) P Q f h = tt

pub none_both : (o : Option ℕ) (P Q : Type 0) → IfNone o P → IfNone o Q → IfNone o (P × Q)
none_both None P Q h k = (h, k)
none_both (Some k) P Q h g = tt

pub none_any : (o : Option ℕ) (P : Type 0) → P → IfNone o P
none_any None P h = h
none_any (Some k) P h = tt

module _ (s t : Search) (kept : IsSearch s) (c : List ℤ) (number : ℕ) (last : number ≡ length s.clauses.items + 1) (variables : t.trail.variables ≡ s.trail.variables) (change : Visited s.trail.literals t.trail.literals s.reasons.items t.reasons.items c number) (clauses : t.clauses.items ≡ s.clauses.items ++ c ∷ []) where
  abbrev more : List (List ℤ)
  more = s.clauses.items ++ c ∷ []

  numbered : clause_at more number ≡ c
  numbered = last_item s.clauses.items c [] (number - 1) (omega arith)

  -- the new clause is in conflict
  pub conflict-inserted : AllFalse c t.trail.literals → IsConflict t.clauses.items t.trail.literals number
  conflict-inserted all_false = rw clauses (record {
    some = omega arith;
    within = omega (arith, length-append s.clauses.items (c ∷ []));
    all_false = subst (λ d. AllFalse d t.trail.literals) (sym numbered) all_false;
  })

  -- an earlier conflict remains
  pub conflict-remains : IfSome s.conflict (IsConflict t.clauses.items t.trail.literals)
  conflict-remains = rw clauses (some_map s.conflict (IsConflict s.clauses.items s.trail.literals) (IsConflict more t.trail.literals)
      (λ k. conflict-grown s.clauses.items c s.trail.literals t.trail.literals k (visited-extends s.trail.literals t.trail.literals s.reasons.items t.reasons.items c number change))
      kept.conflict)

  pub inserted : AreNamed s.trail c → IsFull c → AtLevels s.trail.literals s.levels.items c
      → Noted s.occurrences.lists.items t.occurrences.lists.items c number → t.levels.items ≡ s.levels.items
      → t.head ≡ s.head → IfSome t.conflict (IsConflict t.clauses.items t.trail.literals)
      → IfNone t.conflict (All (IsPropagated s.head s.trail.literals) s.clauses.items
      × HasUnits (λ l. has l t.trail.literals) c) → IsSearch t
  inserted named full at_levels noted levels head conflict propagated =
      let old = s.trail.literals in
      let new = t.trail.literals in
      let ext = visited-extends old new s.reasons.items t.reasons.items c number change in
      let there = subst (λ d. Visited old new s.reasons.items t.reasons.items d number) (sym numbered) change in
      let paired = visited-paired old new s.reasons.items t.reasons.items c number change kept.paired in
      record {
        named = rw clauses (named-same s.trail t.trail more variables (All-push (AreNamed s.trail) s.clauses.items c kept.named named));
        full = rw clauses (All-push IsFull s.clauses.items c kept.full full);
        paired = paired;
        reasons = rw clauses (visited-reasons more old new s.reasons.items t.reasons.items number (omega (arith, length-append s.clauses.items (c ∷ []))) there kept.paired (reasons-more s.clauses.items c old s.reasons.items kept.reasons));
        occurrences = rw (clauses, variables) (occurrences-more s.trail.variables number s.clauses.items c s.occurrences.lists.items t.occurrences.lists.items kept.occurrences noted last);
        decisions = rw (clauses, levels) (decisions-grown more old new s.reasons.items t.reasons.items s.levels.items ext kept.paired paired
            (visited-decisions old new s.reasons.items t.reasons.items c number (omega arith) change)
            (decisions-more s.clauses.items c old s.reasons.items s.levels.items at_levels kept.decisions));
        head = omega (arith, head, kept.head, extends-length old new ext);
        conflict = conflict;
        propagated = rw (clauses, head) (none_map t.conflict _ (All (IsPropagated s.head new) more)
            (λ both. All-push (IsPropagated s.head new) s.clauses.items c
            (λ k d lt. IsPropagated-grown s.head old new (slice_index_or s.clauses.items k d) ext kept.head (both.0 k d lt))
            (IsPropagated-visited s.head new c both.1))
            propagated);
      }
