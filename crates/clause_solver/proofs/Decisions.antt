-- Decisions, reasons and conflicts while the trail grows and is cut back, and with one clause more.
use Rattle.std.proofs.Common.{◌≡◌, ℕ, ◌-◌, ◌<◌, ◌≤◌, true, ℤ, pos, List, [], ◌∷◌, ◌++◌, length, get_or, take, refl, sym, ◌∙◌, ap, subst, inl, inr, arith, length-append, Option, Some, None}
use Rattle.std.specs.Prelude.{neg_ℤ, slice_index, IfNone, is_some}
use Rattle.std.specs.List.{All}
use Rattle.std.proofs.Math.Seq.{take-append_seam}
use Rattle.std.proofs.lemmas.Bool.{cases_lt}
use Rattle.std.proofs.lemmas.List.{get_or_append_left, get_or-append_right, get_or-take, take-append-le, length-take-le, take-take}
use Rattle.std.proofs.lemmas.List.Elements.{All-push}
use Rattle.clause_form.specs.Clauses.{has}
use Rattle.clause_form.specs.Derivation.{HasUnits}
use Rattle.clause_solver.specs.Assigned.{at, Assigned}
use Rattle.clause_solver.specs.Learning.{IsReason, IsConflict, IsSaturated, HaveReasons, clause_at}
use Rattle.clause_solver.specs.Propagation.{IsPropagated, AreReasons, KeepsDecisions, AreNamed, Extends}
use Rattle.clause_solver.specs.Searching.{AreDecisions, AtLevels}
use Rattle.clause_solver.proofs.Places.{has-take_all}
use Rattle.clause_solver.proofs.Propagated.{extends-length, extends-take, extends-has, IsReason-grown}

-- the last item of a list, where one was added after it
pub last_item : {A : Type 0} (xs : List A) (x d : A) (p : ℕ) → p ≡ length xs → get_or (xs ++ x ∷ []) p d ≡ x
last_item xs x d p e =
    let first : p - length xs ≡ 0 = omega arith in
    get_or-append_right xs (x ∷ []) (length xs) p d refl (omega arith) ∙ ap (λ i. get_or (x ∷ []) i d) first

-- more literals hold, none of them by a decision
pub decisions-grown : (clauses : List (List ℤ)) (old new : List ℤ) (rs ss levels : List ℕ) → Extends old new
    → length rs ≡ length old → length ss ≡ length new → KeepsDecisions rs ss → AreDecisions clauses old rs levels
    → AreDecisions clauses new ss levels
decisions-grown clauses old new rs ss levels e pair paired kept is =
    let long = extends-length old new e in
    record {
      rising = is.rising;
      within = λ j lt. omega (arith, is.within j lt, long);
      saturated = λ j lt. subst (λ h. IsSaturated clauses h) (sym (extends-take old new (slice_index levels j) e (omega (arith, is.within j lt)))) (is.saturated j lt);
      decided = λ p lt none. let r = kept p (omega (arith, lt, paired)) none in is.decided p (omega (arith, r.0, pair)) r.1;
    }

-- a literal is decided
pub decisions-decide : (clauses : List (List ℤ)) (holding : List ℤ) (l : ℤ) (rs levels : List ℕ)
    → length rs ≡ length holding → IsSaturated clauses holding → AreDecisions clauses holding rs levels
    → AreDecisions clauses (holding ++ l ∷ []) (rs ++ 0 ∷ []) (levels ++ length holding ∷ [])
decisions-decide clauses holding l rs levels pair saturated is =
    let count = length-append levels (length holding ∷ []) in
    let long = length-append holding (l ∷ []) in
    let before : (j : ℕ) → j < length levels → slice_index (levels ++ length holding ∷ []) j ≡ slice_index levels j = λ j lt. get_or_append_left levels (length holding ∷ []) 0 j lt in
    let here : (j : ℕ) → j ≡ length levels → slice_index (levels ++ length holding ∷ []) j ≡ length holding = λ j e. last_item levels (length holding) 0 j e in
    record {
      rising = λ i j below lt. elim (cases_lt j (length levels)) [
        | inl old ↦ omega (arith, before i (omega arith), before j old, is.rising i j below old)
        | inr new ↦ omega (arith, before i (omega (arith, count)), here j (omega (arith, count)), is.within i (omega (arith, count)))
      ];
      within = λ j lt. elim (cases_lt j (length levels)) [
        | inl old ↦ omega (arith, before j old, is.within j old, long)
        | inr new ↦ omega (arith, here j (omega (arith, count)), long)
      ];
      saturated = λ j lt. elim (cases_lt j (length levels)) [
        | inl old ↦ subst (λ h. IsSaturated clauses h) (sym (ap (λ s. take s (holding ++ l ∷ [])) (before j old) ∙ take-append-le (slice_index levels j) holding (l ∷ []) (omega (arith, is.within j old)))) (is.saturated j old)
        | inr new ↦ subst (λ h. IsSaturated clauses h) (sym (ap (λ s. take s (holding ++ l ∷ [])) (here j (omega (arith, count))) ∙ take-append_seam holding (l ∷ []))) saturated
      ];
      decided = λ p lt none. elim (cases_lt p (length holding)) [
        | inl old ↦
            let r = is.decided p old (sym (get_or_append_left rs (0 ∷ []) 0 p (omega (arith, pair))) ∙ none) in
            (r.0, omega (arith, r.1, count), before r.0 r.1 ∙ r.2)
        | inr new ↦ (length levels, omega (arith, count), here (length levels) refl ∙ omega (arith, long))
      ];
    }

-- one clause more
pub decisions-more : (clauses : List (List ℤ)) (c holding : List ℤ) (rs levels : List ℕ) → AtLevels holding levels c
    → AreDecisions clauses holding rs levels → AreDecisions (clauses ++ c ∷ []) holding rs levels
decisions-more clauses c holding rs levels at_levels is = record {
  rising = is.rising;
  within = is.within;
  saturated = λ j lt. All-push (HasUnits (λ l. has l (take (slice_index levels j) holding))) clauses c (is.saturated j lt) (at_levels j lt);
  decided = is.decided;
}

-- the trail is cut back to what it was before a decision
pub decisions-back : (clauses : List (List ℤ)) (holding : List ℤ) (rs levels : List ℕ) (j : ℕ) → j < length levels
    → AreDecisions clauses holding rs levels
    → AreDecisions clauses (take (slice_index levels j) holding) (take (slice_index levels j) rs) (take j levels)
decisions-back clauses holding rs levels j lt is =
    let t = slice_index levels j in
    let count = length-take-le j levels (omega arith) in
    let long = length-take-le t holding (omega (arith, is.within j lt)) in
    let same : (i : ℕ) → i < j → slice_index (take j levels) i ≡ slice_index levels i = λ i below. get_or-take j levels i 0 below in
    record {
      rising = λ i k below within. omega (arith, count, same i (omega (arith, count)), same k (omega (arith, count)), is.rising i k below (omega (arith, count)));
      within = λ i within. omega (arith, count, long, same i (omega (arith, count)), is.rising i j (omega (arith, count)) lt);
      saturated = λ i within.
          let below : i < j = omega (arith, count) in
          let earlier = is.rising i j below lt in
          subst (λ h. IsSaturated clauses h) (sym (ap (λ s. take s (take t holding)) (same i below) ∙ take-take (slice_index levels i) t holding (omega (arith, earlier)))) (is.saturated i (omega arith));
      decided = λ p within none.
          let below : p < t = omega (arith, long) in
          let r = is.decided p (omega (arith, below, is.within j lt)) (sym (get_or-take t rs p 0 below) ∙ none) in
          let earlier : r.0 < j = elim (cases_lt r.0 j) [
            | inl holds ↦ holds
            | inr fails ↦ elim (cases_lt j r.0) [
              | inl later ↦ absurd (omega (arith, is.rising j r.0 later r.1, r.2))
              | inr not_later ↦ let equal : r.0 ≡ j = omega arith in absurd (omega (arith, ap (slice_index levels) equal, r.2))
            ]
          ] in
          (r.0, omega (arith, earlier, count), same r.0 earlier ∙ r.2);
    }

pub clause_at-more : (clauses : List (List ℤ)) (c : List ℤ) (k : ℕ) → 0 < k → k ≤ length clauses
    → clause_at (clauses ++ c ∷ []) k ≡ clause_at clauses k
clause_at-more clauses c k some le = get_or_append_left clauses (c ∷ []) [] (k - 1) (omega arith)

pub reasons-more : (clauses : List (List ℤ)) (c holding : List ℤ) (rs : List ℕ) → AreReasons clauses holding rs
    → AreReasons (clauses ++ c ∷ []) holding rs
reasons-more clauses c holding rs are p lt =
    let r = are p lt in (
      omega (arith, r.0, length-append clauses (c ∷ [])),
      λ some. subst (λ d. IsReason holding d p) (sym (clause_at-more clauses c (slice_index rs p) some r.0)) (r.1 some),
    )

pub reasons-decide : (clauses : List (List ℤ)) (holding : List ℤ) (l : ℤ) (rs : List ℕ) → length rs ≡ length holding
    → AreReasons clauses holding rs → AreReasons clauses (holding ++ l ∷ []) (rs ++ 0 ∷ [])
reasons-decide clauses holding l rs pair are p lt = elim (cases_lt p (length holding)) [
  | inl old ↦
      let r = are p old in
      let number = get_or_append_left rs (0 ∷ []) 0 p (omega (arith, pair)) in (
        omega (arith, r.0, number),
        λ some. subst (λ n. IsReason (holding ++ l ∷ []) (clause_at clauses n) p) (sym number) (IsReason-grown holding (holding ++ l ∷ []) (clause_at clauses (slice_index rs p)) p (l ∷ [], refl) old (r.1 (omega (arith, number)))),
      )
  | inr new ↦
      let none = last_item rs 0 0 p (omega (arith, pair, length-append holding (l ∷ []))) in
      (omega (arith, none), λ some. absurd (omega (arith, none)))
]

IsReason-back : (holding c : List ℤ) (t p : ℕ) → p < t → IsReason holding c p → IsReason (take t holding) c p
IsReason-back holding c t p below why =
    let here : at (take t holding) p ≡ at holding p = get_or-take t holding p (pos 0) below in
    record {
      among = ap (λ x. has x c) here ∙ why.among;
      others = λ m h ne. ap (has (neg_ℤ m)) (take-take p t holding (omega arith)) ∙ why.others m h (λ s. ne (s ∙ sym here));
    }

pub reasons-back : (clauses : List (List ℤ)) (holding : List ℤ) (rs : List ℕ) (t : ℕ) → t ≤ length holding
    → AreReasons clauses holding rs → AreReasons clauses (take t holding) (take t rs)
reasons-back clauses holding rs t le are p lt =
    let below : p < t = omega (arith, length-take-le t holding le) in
    let r = are p (omega arith) in
    let number : slice_index (take t rs) p ≡ slice_index rs p = get_or-take t rs p 0 below in (
      omega (arith, r.0, number),
      λ some. subst (λ n. IsReason (take t holding) (clause_at clauses n) p) (sym number) (IsReason-back holding (clause_at clauses (slice_index rs p)) t p below (r.1 (omega (arith, number)))),
    )

pub conflict-grown : (clauses : List (List ℤ)) (c old new : List ℤ) (k : ℕ) → Extends old new
    → IsConflict clauses old k → IsConflict (clauses ++ c ∷ []) new k
conflict-grown clauses c old new k e is = record {
  some = is.some;
  within = omega (arith, is.within, length-append clauses (c ∷ []));
  all_false = λ m h. extends-has old new (neg_ℤ m) e (is.all_false m (ap (has m) (sym (clause_at-more clauses c k is.some is.within)) ∙ h));
}

pub named-same : (a b : Assigned) (clauses : List (List ℤ)) → b.variables ≡ a.variables → All (AreNamed a) clauses
    → All (AreNamed b) clauses
named-same a b clauses e named k d lt m h = let r = named k d lt m h in (r.0, omega (arith, r.1, e))

take_whole : (xs : List ℤ) → take (length xs) xs ≡ xs
take_whole [] = refl
take_whole (x ∷ xs) = ap (λ ys. x ∷ ys) (take_whole xs)

-- what is propagated up to the end leaves nothing to do, and the other way round
pub saturated-propagated : (clauses : List (List ℤ)) (holding : List ℤ) (n : ℕ) → n ≡ length holding
    → All (IsPropagated n holding) clauses → IsSaturated clauses holding
saturated-propagated clauses holding n e propagated k d lt l h others =
    let whole : take n holding ≡ holding = ap (λ i. take i holding) e ∙ take_whole holding in
    propagated k d lt l h (λ m g ne. ap (has (neg_ℤ m)) whole ∙ others m g ne)

pub propagated-saturated : (clauses : List (List ℤ)) (holding : List ℤ) (n : ℕ) → IsSaturated clauses holding
    → All (IsPropagated n holding) clauses
propagated-saturated clauses holding n saturated k d lt l h others = saturated k d lt l h (λ m g ne. has-take_all (neg_ℤ m) holding n (others m g ne))

-- where there is a value, nothing is owed for none
pub none_owed : {A : Type 0} (o : Option A) (P : Type 0) → is_some o ≡ true → IfNone o P
none_owed None P h = absurd (cc)
none_owed (Some x) P h = tt

-- the literals after the last decision have reasons
pub reasons_after : (clauses : List (List ℤ)) (holding : List ℤ) (rs levels : List ℕ) (start : ℕ)
    → AreReasons clauses holding rs → AreDecisions clauses holding rs levels
    → ((j : ℕ) → j < length levels → slice_index levels j < start) → HaveReasons clauses holding rs start
reasons_after clauses holding rs levels start are is last p above lt =
    let r = are p lt in
    let some : 0 < slice_index rs p = elim (cases_lt 0 (slice_index rs p)) [
      | inl holds ↦ holds
      | inr fails ↦ let d = is.decided p lt (omega arith) in absurd (omega (arith, last d.0 d.1, d.2))
    ] in
    (some, r.0, r.1 some)
