-- There are fewer nonempty clauses over n variables without a variable in both signs than 3 to the n: each variable
-- is in such a clause, or its negation, or neither, and not each time neither.
use Rattle.std.proofs.Common.{◌≡◌, ◌≢◌, ℕ, zero, suc, ◌+◌, ◌-◌, ◌*◌, ◌^◌, ◌<◌, ◌≤◌, true, false, ℤ, pos, List, [], ◌++◌, length, take, cond, refl, sym, ◌∙◌, ap, ◌⊎◌, inl, inr, arith, length-append}
use Rattle.std.specs.Prelude.{neg_ℤ, negsuc, unsigned_abs, slice_index_or}
use Rattle.std.proofs.Math.Nat.{pow-succ'}
use Rattle.std.proofs.lemmas.Bool.{cases_Bool, cases_lt, cond-true, cond-false, both_ways}
use Rattle.std.proofs.lemmas.List.{get_or-append_right, get_or-take, length-take-le}
use Rattle.clause_form.specs.Clauses.{has}
use Rattle.clause_form.specs.Derivation.{EachAdds}
use Rattle.clause_form.proofs.Adding.{adds-new}
use Rattle.clause_solver.proofs.Pigeons.{pigeon}

-- in which sign the clause has the variable
digit : ℕ → List ℤ → ℕ
digit v c = cond (has (pos v) c) 1 (cond (has (neg_ℤ (pos v)) c) 2 0)

-- the signs of the first n variables as one number
code : ℕ → List ℤ → ℕ
code zero c = 0
code (suc n) c = 3 * code n c + digit (suc n) c

abbrev OneSign : List ℤ → Type 0
OneSign c = (m : ℤ) → has m c ≡ true → has (neg_ℤ m) c ≡ true → ⊥

-- the variable is in the clause, or its negation, or neither
data Signed (v : ℕ) (c : List ℤ) : Type 0 where
  plain : has (pos v) c ≡ true → digit v c ≡ 1 → Signed v c
  opposite : has (pos v) c ≡ false → has (neg_ℤ (pos v)) c ≡ true → digit v c ≡ 2 → Signed v c
  neither : has (pos v) c ≡ false → has (neg_ℤ (pos v)) c ≡ false → digit v c ≡ 0 → Signed v c

signed : (v : ℕ) (c : List ℤ) → Signed v c
unfolding digit
signed v c = elim (cases_Bool (has (pos v) c)) [
  | inl t ↦ plain t (cond-true _ 1 _ t)
  | inr f ↦ elim (cases_Bool (has (neg_ℤ (pos v)) c)) [
    | inl t ↦ opposite f t (cond-false _ 1 _ f ∙ cond-true _ 2 0 t)
    | inr g ↦ neither f g (cond-false _ 1 _ f ∙ cond-false _ 2 0 g)
  ]
]

digit-below : (v : ℕ) (c : List ℤ) → digit v c < 3
digit-below v c = elim (signed v c) [
  | plain t e ↦ omega (arith, e)
  | opposite f t e ↦ omega (arith, e)
  | neither f g e ↦ omega (arith, e)
]

code-below : (n : ℕ) (c : List ℤ) → code n c < 3 ^ n
unfolding code
code-below zero c = omega arith
code-below (suc n) c = omega (arith, code-below n c, digit-below (suc n) c, pow-succ' 3 n)

-- a literal is its variable or the negation
sign_cases : (l : ℤ) → (l ≡ pos (unsigned_abs l)) ⊎ (l ≡ neg_ℤ (pos (unsigned_abs l)))
sign_cases (pos n) = inl refl
sign_cases (negsuc n) = inr refl

-- equal signs of a variable give the same literals of it
digit-has : (l : ℤ) (c d : List ℤ) → OneSign c → digit (unsigned_abs l) c ≡ digit (unsigned_abs l) d → has l c ≡ true
    → has l d ≡ true
digit-has l c d one e h = elim (sign_cases l) [
  | inl is ↦
      let here : has (pos (unsigned_abs l)) c ≡ true = ap (λ x. has x c) (sym is) ∙ h in
      elim (signed (unsigned_abs l) c) [
        | plain t x ↦ elim (signed (unsigned_abs l) d) [
          | plain u y ↦ ap (λ z. has z d) is ∙ u
          | opposite f u y ↦ absurd (omega (arith, e, x, y))
          | neither f g y ↦ absurd (omega (arith, e, x, y))
        ]
        | opposite f t x ↦ absurd (both_ways _ f here)
        | neither f g x ↦ absurd (both_ways _ f here)
      ]
  | inr is ↦
      let here : has (neg_ℤ (pos (unsigned_abs l))) c ≡ true = ap (λ x. has x c) (sym is) ∙ h in
      elim (signed (unsigned_abs l) c) [
        | plain t x ↦ absurd (one (pos (unsigned_abs l)) t here)
        | opposite f t x ↦ elim (signed (unsigned_abs l) d) [
          | plain u y ↦ absurd (omega (arith, e, x, y))
          | opposite g u y ↦ ap (λ z. has z d) is ∙ u
          | neither g k y ↦ absurd (omega (arith, e, x, y))
        ]
        | neither f g x ↦ absurd (both_ways _ g here)
      ]
]

code-digit : (n v : ℕ) (c d : List ℤ) → 0 < v → v ≤ n → code n c ≡ code n d → digit v c ≡ digit v d
unfolding code
code-digit zero v c d some le e = absurd (omega arith)
code-digit (suc n) v c d some le e =
    let before : code n c ≡ code n d = omega (arith, e, digit-below (suc n) c, digit-below (suc n) d) in
    elim (cases_lt n v) [
      | inl last ↦
          let here : v ≡ suc n = omega arith in
          ap (λ i. digit i c) here ∙ omega (arith, e, before) ∙ ap (λ i. digit i d) (sym here)
      | inr earlier ↦ code-digit n v c d some earlier before
    ]

-- a clause with a literal of the first n variables has a code above 0
code-above : (n : ℕ) (c : List ℤ) (l : ℤ) → 0 < unsigned_abs l → unsigned_abs l ≤ n → has l c ≡ true → 0 < code n c
unfolding code
code-above zero c l some le h = absurd (omega arith)
code-above (suc n) c l some le h = elim (cases_lt n (unsigned_abs l)) [
  | inr earlier ↦ omega (arith, code-above n c l some earlier h)
  | inl last ↦
      let here : unsigned_abs l ≡ suc n = omega arith in
      let above : 0 < digit (unsigned_abs l) c = elim (signed (unsigned_abs l) c) [
        | plain t e ↦ omega (arith, e)
        | opposite f t e ↦ omega (arith, e)
        | neither f g e ↦ absurd (elim (sign_cases l) [
          | inl is ↦ both_ways _ f (ap (λ x. has x c) (sym is) ∙ h)
          | inr is ↦ both_ways _ g (ap (λ x. has x c) (sym is) ∙ h)
        ])
      ] in
      let there : digit (unsigned_abs l) c ≡ digit (suc n) c = ap (λ i. digit i c) here in
      omega (arith, above, there)
]

abbrev pub NamedWithin : ℕ → List ℤ → Type 0
NamedWithin n c = (l : ℤ) → has l c ≡ true → (0 < unsigned_abs l) × (unsigned_abs l ≤ n)

module _ (n : ℕ) (given made : List (List ℤ)) (each : EachAdds given made) (named : (k : ℕ) → k < length made → NamedWithin n (slice_index_or made k [])) where
  -- a clause that was made has no code of an earlier one
  later-differs : (p q : ℕ) → p < q → q < length made
      → code n (slice_index_or made p []) ≢ code n (slice_index_or made q [])
  later-differs p q lt within e =
      let c = slice_index_or made p [] in
      let d = slice_index_or made q [] in
      let adds = each q within in
      let count = length-take-le q made (omega arith) in
      let item : slice_index_or (given ++ take q made) (length given + p) [] ≡ c =
      get_or-append_right given (take q made) (length given) (length given + p) [] refl (omega arith)
      ∙ ap (λ i. slice_index_or (take q made) i []) (omega arith)
      ∙ get_or-take q made p [] lt in
      adds-new (given ++ take q made) d adds (length given + p) [] (omega (arith, length-append given (take q made), count))
      (λ l h.
      let here : has l c ≡ true = ap (has l) (sym item) ∙ h in
      let some = named p (omega arith) l here in
      digit-has l c d (each p (omega arith)).one_sign (code-digit n (unsigned_abs l) c d some.0 some.1 e) here)

  pub fewer : length made < 3 ^ n
  fewer =
      let above : (p : ℕ) → p < length made → 0 < code n (slice_index_or made p []) = λ p lt.
      let at = (each p lt).at in
      let some = named p lt at.0 at.1.among in
      code-above n (slice_index_or made p []) at.0 some.0 some.1 at.1.among in
      let count = pigeon (3 ^ n - 1) (length made) (λ p. code n (slice_index_or made p []) - 1)
      (λ p lt. omega (arith, above p lt, code-below n (slice_index_or made p [])))
      (λ p q lt within e.
      let same : code n (slice_index_or made p []) ≡ code n (slice_index_or made q []) = omega (arith, above p lt, above q within, e) in
      elim (cases_lt p q) [
        | inl below ↦ absurd (later-differs p q below within same)
        | inr not_below ↦ elim (cases_lt q p) [
          | inl above_it ↦ absurd (later-differs q p above_it lt (sym same))
          | inr equal ↦ omega arith
        ]
      ]) in
      omega (arith, count, code-below n [])
