-- Membership in clauses, and that cuts of clauses are clauses.
use Rattle.std.proofs.Common.{◌≡◌, ◌≢◌, ℕ, Bool, true, false, not, ◌&&◌, ◌||◌, ℤ, List, [], ◌∷◌, ◌++◌, refl, sym, ◌∙◌, ap, ◌⊎◌, inl, inr, arith}
use Rattle.std.specs.Prelude.{neg_ℤ, pos, negsuc, zero, suc, ◌<◌, ◌≤◌, length, unsigned_abs, slice_index_or}
use Rattle.std.specs.List.{filter, list_any, list_all}
use Rattle.std.specs.Ordering.{int_eq}
use Rattle.std.proofs.lemmas.Bool.{cases_Bool, and_parts, or_cases, and_from, or_left, or_right, or_from, false≢true, not-true, both_ways}
use Rattle.std.proofs.lemmas.Bool.Decides.{Decides-int_eq}
use Rattle.clause_form.specs.Clauses.{value, has, is_literal, is_distinct, is_clause, NamesWithin}
use Rattle.clause_form.specs.Derivation.{without, union, resolvent}

-- two literals are the same or not
pub data SameOrNot (l m : ℤ) : Type 0 where
  same : l ≡ m → int_eq l m ≡ true → SameOrNot l m
  apart : l ≢ m → int_eq l m ≡ false → SameOrNot l m

pub compared : (l m : ℤ) → SameOrNot l m
compared l m = elim (cases_Bool (int_eq l m)) [
  | inl t ↦ same ((Decides-int_eq l m).0 t) t
  | inr f ↦ apart (λ e. both_ways _ f ((Decides-int_eq l m).1 e)) f
]

pub int_eq-true : (l m : ℤ) → int_eq l m ≡ true → l ≡ m
int_eq-true l m t = (Decides-int_eq l m).0 t

pub int_eq-same : (l m : ℤ) → l ≡ m → int_eq l m ≡ true
int_eq-same l m e = (Decides-int_eq l m).1 e

pub int_eq-apart : (l m : ℤ) → l ≢ m → int_eq l m ≡ false
int_eq-apart l m h = elim (compared l m) [ same e t ↦ absurd (h e) | apart n f ↦ f ]

pub has-append : (l : ℤ) (c d : List ℤ) → has l (c ++ d) ≡ (has l c || has l d)
has-append l [] d = refl
has-append l (m ∷ c) d = elim (cases_Bool (int_eq m l)) [
  | inl t ↦ rw t refl
  | inr f ↦ rw f (has-append l c d)
]

-- a filter keeps the literals that pass
pub has-filter : (p : ℤ → Bool) (l : ℤ) (c : List ℤ) → has l (filter p c) ≡ (has l c && p l)
has-filter p l [] = refl
has-filter p l (m ∷ c) = elim (cases_Bool (p m)) [
  | inl t ↦ elim (compared m l) [
    | same e s ↦ let q : p l ≡ true = ap p (sym e) ∙ t in rw (t, s, q) refl
    | apart n f ↦ rw (t, f) (has-filter p l c)
  ]
  | inr f ↦ elim (compared m l) [
    | same e s ↦ let q : p l ≡ false = ap p (sym e) ∙ f in rw (f, s) (has-filter p l c ∙ rw q (grind arith))
    | apart n g ↦ rw (f, g) (has-filter p l c)
  ]
]

pub list_all-filter : (q p : ℤ → Bool) (c : List ℤ) → list_all q c ≡ true → list_all q (filter p c) ≡ true
list_all-filter q p [] h = h
list_all-filter q p (m ∷ c) h =
    let parts = and_parts (q m) (list_all q c) h in
    elim (cases_Bool (p m)) [
      | inl t ↦ rw t (and_from _ _ parts.0 (list_all-filter q p c parts.1))
      | inr f ↦ rw f (list_all-filter q p c parts.1)
    ]

pub list_all-append : (q : ℤ → Bool) (c d : List ℤ) → list_all q c ≡ true → list_all q d ≡ true → list_all q (c ++ d) ≡ true
list_all-append q [] d h k = k
list_all-append q (m ∷ c) d h k =
    let parts = and_parts (q m) (list_all q c) h in and_from _ _ parts.0 (list_all-append q c d parts.1 k)

pub is_distinct-filter : (p : ℤ → Bool) (c : List ℤ) → is_distinct c ≡ true → is_distinct (filter p c) ≡ true
is_distinct-filter p [] h = h
is_distinct-filter p (m ∷ c) h =
    let parts = and_parts (not (has m c)) (is_distinct c) h in
    elim (cases_Bool (p m)) [
      | inl t ↦ rw t (and_from _ _ (ap not (has-filter p m c ∙ ap (λ b. b && p m) (not-true _ parts.0))) (is_distinct-filter p c parts.1))
      | inr f ↦ rw f (is_distinct-filter p c parts.1)
    ]

-- two lists with nothing in common
pub is_distinct-append : (c d : List ℤ) → is_distinct c ≡ true → is_distinct d ≡ true → ((l : ℤ) → has l c ≡ true → has l d ≡ false) → is_distinct (c ++ d) ≡ true
is_distinct-append [] d h k none = k
is_distinct-append (m ∷ c) d h k none =
    let parts = and_parts (not (has m c)) (is_distinct c) h in
    let here : has m (m ∷ c) ≡ true = or_left _ _ (int_eq-same m m refl) in
    and_from _ _
    (ap not (has-append m c d ∙ or_from _ _ (not-true _ parts.0) (none m here)))
    (is_distinct-append c d parts.1 k (λ l t. none l (or_right _ _ t)))

pub is_clause-union : (c d : List ℤ) → is_clause c ≡ true → is_clause d ≡ true → is_clause (union c d) ≡ true
is_clause-union c d h k =
    let hs = and_parts _ _ h in
    let ks = and_parts _ _ k in
    let others = filter (λ l. not (has l c)) d in
    and_from _ _
    (list_all-append is_literal c others hs.0 (list_all-filter is_literal _ d ks.0))
    (is_distinct-append c others hs.1 (is_distinct-filter _ d ks.1) (λ l t. has-filter (λ l. not (has l c)) l d ∙ rw t (grind arith)))

pub is_clause-without : (p : ℤ) (c : List ℤ) → is_clause c ≡ true → is_clause (without p c) ≡ true
is_clause-without p c h =
    let hs = and_parts _ _ h in
    and_from _ _ (list_all-filter is_literal _ c hs.0) (is_distinct-filter _ c hs.1)

pub is_clause-resolvent : (c : List ℤ) (p : ℤ) (d : List ℤ) → is_clause c ≡ true → is_clause d ≡ true → is_clause (resolvent c p d) ≡ true
unfolding resolvent
is_clause-resolvent c p d h k = is_clause-union (without p c) (without (neg_ℤ p) d) (is_clause-without p c h) (is_clause-without (neg_ℤ p) d k)

-- a literal of a clause is a literal
pub list_all-has : (q : ℤ → Bool) (c : List ℤ) (l : ℤ) → list_all q c ≡ true → has l c ≡ true → q l ≡ true
list_all-has q [] l h t = absurd (false≢true t)
list_all-has q (m ∷ c) l h t =
    let parts = and_parts (q m) (list_all q c) h in
    elim (or_cases (int_eq m l) (has l c) t) [
      | inl e ↦ ap q (sym (int_eq-true m l e)) ∙ parts.0
      | inr u ↦ list_all-has q c l parts.1 u
    ]

pub is_literal-has : (c : List ℤ) (l : ℤ) → is_clause c ≡ true → has l c ≡ true → is_literal l ≡ true
is_literal-has c l h t = list_all-has is_literal c l (and_parts _ _ h).0 t

pub negated-negated : (l : ℤ) → neg_ℤ (neg_ℤ l) ≡ l
negated-negated l = grind arith

pub any-has : (q : ℤ → Bool) (c : List ℤ) → list_any q c ≡ true → (l : ℤ) × (has l c ≡ true) × (q l ≡ true)
any-has q [] h = absurd (false≢true h)
any-has q (m ∷ c) h = elim (cases_Bool (q m)) [
  | inl t ↦ (m, or_left _ _ (int_eq-same m m refl), t)
  | inr f ↦ let r = any-has q c (ap (λ b. b || list_any q c) (sym f) ∙ h) in (r.0, or_right _ _ r.1, r.2)
]

pub has-any : (q : ℤ → Bool) (c : List ℤ) (l : ℤ) → has l c ≡ true → q l ≡ true → list_any q c ≡ true
has-any q [] l h t = absurd (false≢true h)
has-any q (m ∷ c) l h t = elim (or_cases (int_eq m l) (has l c) h) [
  | inl e ↦ or_left _ _ (ap q (int_eq-true m l e) ∙ t)
  | inr u ↦ or_right _ _ (has-any q c l u t)
]

pub has-without : (p : ℤ) (c : List ℤ) (l : ℤ) → has l c ≡ true → l ≢ p → has l (without p c) ≡ true
has-without p c l h ne = has-filter (λ m. not (int_eq m p)) l c ∙ and_from _ _ h (ap not (int_eq-apart l p ne))

pub has-union_left : (c d : List ℤ) (l : ℤ) → has l c ≡ true → has l (union c d) ≡ true
has-union_left c d l h = has-append l c (filter (λ m. not (has m c)) d) ∙ or_left _ _ h

pub has-union_right : (c d : List ℤ) (l : ℤ) → has l d ≡ true → has l (union c d) ≡ true
has-union_right c d l h = elim (cases_Bool (has l c)) [
  | inl t ↦ has-union_left c d l t
  | inr f ↦ has-append l c (filter (λ m. not (has m c)) d) ∙ or_right _ _ (has-filter (λ m. not (has m c)) l d ∙ and_from _ _ h (ap not f))
]

pub has-resolvent_left : (c : List ℤ) (p : ℤ) (d : List ℤ) (l : ℤ) → has l c ≡ true → l ≢ p → has l (resolvent c p d) ≡ true
unfolding resolvent
has-resolvent_left c p d l h ne = has-union_left (without p c) (without (neg_ℤ p) d) l (has-without p c l h ne)

pub has-resolvent_right : (c : List ℤ) (p : ℤ) (d : List ℤ) (l : ℤ) → has l d ≡ true → l ≢ neg_ℤ p → has l (resolvent c p d) ≡ true
unfolding resolvent
has-resolvent_right c p d l h ne = has-union_right (without p c) (without (neg_ℤ p) d) l (has-without (neg_ℤ p) d l h ne)

-- a literal without another is one of the clause, and not the other
pub without-has : (p : ℤ) (c : List ℤ) (l : ℤ) → has l (without p c) ≡ true → (has l c ≡ true) × (l ≢ p)
without-has p c l h =
    let parts = and_parts (has l c) (not (int_eq l p)) (sym (has-filter (λ m. not (int_eq m p)) l c) ∙ h) in
    (parts.0, λ e. both_ways _ (not-true _ parts.1) (int_eq-same l p e))

-- a literal of a resolvent stands in one clause and is not the pivot there
pub resolvent-has : (c : List ℤ) (p : ℤ) (d : List ℤ) (l : ℤ) → has l (resolvent c p d) ≡ true → ((has l c ≡ true) × (l ≢ p)) ⊎ ((has l d ≡ true) × (l ≢ neg_ℤ p))
unfolding resolvent
resolvent-has c p d l h =
    let c' = without p c in
    let d' = without (neg_ℤ p) d in
    let split = sym (has-append l c' (filter (λ m. not (has m c')) d')) ∙ h in
    elim (or_cases (has l c') (has l (filter (λ m. not (has m c')) d')) split) [
      | inl a ↦ inl (without-has p c l a)
      | inr b ↦ inr (without-has (neg_ℤ p) d l (and_parts (has l d') _ (sym (has-filter (λ m. not (has m c')) l d') ∙ b)).0)
    ]

pub value-negated : (a : ℕ → Bool) (l : ℤ) → value a l ≡ true → value a (neg_ℤ l) ≡ false
value-negated a (pos zero) h = refl
value-negated a (pos (suc n)) h = ap not h
value-negated a (negsuc n) h = not-true _ h

-- an assignment that makes both clauses true makes their resolvent true
pub resolvent-follows : (a : ℕ → Bool) (c : List ℤ) (p : ℤ) (d : List ℤ) → list_any (value a) c ≡ true → list_any (value a) d ≡ true → list_any (value a) (resolvent c p d) ≡ true
resolvent-follows a c p d h k =
    let x = any-has (value a) c h in
    let y = any-has (value a) d k in
    elim (compared x.0 p) [
      | apart n f ↦ has-any (value a) (resolvent c p d) x.0 (has-resolvent_left c p d x.0 x.1 n) x.2
      | same e s ↦
          let ne : y.0 ≢ neg_ℤ p = λ u. both_ways (value a y.0) (ap (value a) u ∙ value-negated a p (ap (value a) (sym e) ∙ x.2)) y.2 in
          has-any (value a) (resolvent c p d) y.0 (has-resolvent_right c p d y.0 y.1 ne) y.2
    ]

-- one more literal
pub is_clause-push : (c : List ℤ) (l : ℤ) → is_clause c ≡ true → is_literal l ≡ true → has l c ≡ false → is_clause (c ++ l ∷ []) ≡ true
is_clause-push c l h literal out =
    let hs = and_parts _ _ h in
    and_from _ _
    (list_all-append is_literal c (l ∷ []) hs.0 (and_from _ _ literal refl))
    (is_distinct-append c (l ∷ []) hs.1 refl (λ m t. elim (compared l m) [
      | same e s ↦ absurd (both_ways _ (ap (λ x. has x c) (sym e) ∙ out) t)
      | apart n f ↦ or_from _ _ f refl
    ]))

-- a clause names the variables of the literals at its places
pub names-from : (n : ℕ) (c : List ℤ) → ((j : ℕ) → j < length c → unsigned_abs (slice_index_or c j (pos 0)) ≤ n) → NamesWithin n c
names-from n [] h l t = absurd (false≢true t)
names-from n (m ∷ c) h l t = elim (or_cases (int_eq m l) (has l c) t) [
  | inl e ↦ omega (arith, h 0 (omega arith), ap unsigned_abs (int_eq-true m l e))
  | inr u ↦ names-from n c (λ j lt. h (suc j) (omega arith)) l u
]

pub names-at : (n : ℕ) (c : List ℤ) (j : ℕ) → j < length c → NamesWithin n c → unsigned_abs (slice_index_or c j (pos 0)) ≤ n
names-at n [] j lt h = absurd (omega arith)
names-at n (m ∷ c) zero lt h = h m (or_left _ _ (int_eq-same m m refl))
names-at n (m ∷ c) (suc j) lt h = names-at n c j (omega arith) (λ l t. h l (or_right _ _ t))
