-- One step of conflict analysis, and what its last clause adds.
use Rattle.std.proofs.Common.{◌≡◌, ◌≢◌, ℕ, zero, suc, ◌-◌, ◌<◌, ◌≤◌, true, false, ◌&&◌, ℤ, pos, List, [], ◌∷◌, ◌++◌, length, take, refl, sym, ◌∙◌, ap, inl, inr, arith, Some, None}
use Rattle.std.specs.Prelude.{neg_ℤ, unsigned_abs, slice_index_or, option_and_then, negsuc}
use Rattle.std.specs.List.{All}
use Rattle.std.proofs.lemmas.Bool.{and_from, false_from_ne_true}
use Rattle.std.proofs.lemmas.Option.{slice_get-get_or}
use Rattle.clause_form.specs.declared.derivation.Cut.{Cut}
use Rattle.clause_form.specs.Clauses.{has, is_literal}
use Rattle.clause_form.specs.Derivation.{resolvent, numbered, after_cut, after_cuts}
use Rattle.clause_form.specs.Derivation.{Adds}
use Rattle.clause_form.proofs.Members.{resolvent-has, has-resolvent_left}
use Rattle.clause_form.proofs.Chains.{some_or_none}
use Rattle.clause_form.proofs.Adding.{Opposed, adds_at}
use Rattle.clause_form.specs.Clauses.{IsFull}
use Rattle.clause_solver.specs.declared.learn.Latest.{Latest}
use Rattle.clause_solver.specs.Assigned.{at, Assigned, IsConsistent}
use Rattle.clause_solver.specs.Learning.{AllFalse, IsLatest, IsReason, IsSaturated, MakesClause}
use Rattle.clause_solver.proofs.Places.{has-place, place_below, has-take_more, has-take_all, abs-negated}

-- a literal isn't its negation
pub literal_apart : (l : ℤ) → is_literal l ≡ true → l ≢ neg_ℤ l
literal_apart (pos zero) h e = absurd (cc)
literal_apart (pos (suc n)) h e = absurd (cc)
literal_apart (negsuc n) h e = absurd (cc)

-- no literal holds with its negation
pub opposed_all : (a : Assigned) → IsConsistent a → Opposed (λ l. has l a.literals)
opposed_all a ok m h k =
    let x = has-place m a.literals h in
    let y = has-place (neg_ℤ m) a.literals k in
    let same : x.0 ≡ y.0 = ok.one x.0 y.0 x.1 y.1 (ap unsigned_abs x.2 ∙ sym (abs-negated m) ∙ sym (ap unsigned_abs y.2)) in
    literal_apart m (ok.named m h).0 (sym x.2 ∙ ap (at a.literals) same ∙ y.2)

pub opposed_before : (a : Assigned) (n : ℕ) → IsConsistent a → Opposed (λ l. has l (take n a.literals))
opposed_before a n ok m h k = opposed_all a ok m (has-take_all m a.literals n h) (has-take_all (neg_ℤ m) a.literals n k)

module _ (a : Assigned) (ok : IsConsistent a) (c : List ℤ) (r : Latest) (is : IsLatest a.literals c r) where
  pub falls : (below : ℕ) → AllFalse c (take below a.literals) → r.place < below
  falls below all_false = place_below a ok r.place below (neg_ℤ r.literal) is.within is.here (all_false r.literal is.among)

  -- the resolvent with the reason was false before
  pub false_before : (d : List ℤ) → IsReason a.literals d r.place
      → AllFalse (resolvent c r.literal d) (take r.place a.literals)
  false_before d why m h = elim (resolvent-has c r.literal d m h) [
    | inl x ↦ has-take_more (neg_ℤ m) a.literals r.rest r.place is.before (is.others m x.0 x.1)
    | inr y ↦ why.others m y.0 (λ e. y.1 (e ∙ is.here))
  ]

  pub still_full : (d : List ℤ) → 0 < r.rest → IsFull (resolvent c r.literal d)
  still_full d more = let s = is.second more in (s.0, has-resolvent_left c r.literal d s.0 s.1 s.2)

  -- the clause adds once its other literals were false before the start
  pub adds_here : (clauses : List (List ℤ)) (start : ℕ) → AllFalse c a.literals → r.rest ≤ start
      → IsSaturated clauses (take start a.literals) → All IsFull clauses → Adds clauses c
  adds_here clauses start all_false early saturated full =
      let out : has r.literal (take start a.literals) ≡ false = false_from_ne_true _ (λ h.
      opposed_all a ok r.literal (has-take_all r.literal a.literals start h) (all_false r.literal is.among)) in
      record {
        one_sign = λ m h k. opposed_all a ok (neg_ℤ m) (all_false m h) (all_false (neg_ℤ m) k);
        at = (
          r.literal,
          adds_at clauses c r.literal (λ l. has l (take start a.literals)) is.among saturated
              (λ m h ne. has-take_more (neg_ℤ m) a.literals r.rest start early (is.others m h ne))
              out (opposed_before a start ok) full,
        );
      }

after_cuts-push : (clauses : List (List ℤ)) (cuts : List Cut) (c : List ℤ) (x : Cut)
    → after_cuts clauses c (cuts ++ x ∷ []) ≡ option_and_then (λ e. after_cut clauses e x) (after_cuts clauses c cuts)
after_cuts-push clauses [] c x = elim (some_or_none (after_cut clauses c x)) [
  | inl r ↦ rw r.1 refl
  | inr n ↦ rw n refl
]
after_cuts-push clauses (y ∷ cuts) c x = elim (some_or_none (after_cut clauses c y)) [
  | inl r ↦ rw r.1 (after_cuts-push clauses cuts r.0 x)
  | inr n ↦ rw n refl
]

pub get-numbered : (clauses : List (List ℤ)) (k : ℕ) → 0 < k → k ≤ length clauses
    → numbered clauses k ≡ Some (slice_index_or clauses (k - 1) [])
get-numbered clauses zero h le = absurd (omega arith)
get-numbered clauses (suc k) h le = slice_get-get_or clauses k [] (omega arith) ∙ ap (λ i. Some (slice_index_or clauses i [])) (omega arith)

-- one more cut
pub MakesClause-push : (clauses : List (List ℤ)) (first : ℕ) (cuts : List Cut) (c : List ℤ) (cut : Cut) (d : List ℤ)
    → MakesClause clauses first cuts c → numbered clauses cut.with ≡ Some d → has cut.pivot c ≡ true
    → has (neg_ℤ cut.pivot) d ≡ true → MakesClause clauses first (cuts ++ cut ∷ []) (resolvent c cut.pivot d)
MakesClause-push clauses first cuts c cut d made there here other = elim (some_or_none (numbered clauses first)) [
  | inl r ↦
      let g : after_cuts clauses r.0 cuts ≡ Some c = rw r.1 at made in
      let both : (has cut.pivot c && has (neg_ℤ cut.pivot) d) ≡ true = and_from _ _ here other in
      let step : after_cut clauses c cut ≡ Some (resolvent c cut.pivot d) = rw there (rw both refl) in
      rw r.1 (after_cuts-push clauses cuts r.0 cut ∙ ap (option_and_then (λ e. after_cut clauses e cut)) g ∙ step)
  | inr n ↦ let g : None ≡ Some c = rw n at made in absurd (cc)
]

pub MakesClause-first : (clauses : List (List ℤ)) (first : ℕ) (c : List ℤ) → numbered clauses first ≡ Some c
    → MakesClause clauses first [] c
MakesClause-first clauses first c h = rw h refl
