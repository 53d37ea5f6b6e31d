-- The lists of clauses that have a literal, with one number more, and with one clause more.
use Rattle.std.proofs.Common.{◌≡◌, ◌≢◌, ℕ, zero, suc, ◌+◌, ◌-◌, ◌<◌, ℤ, List, [], ◌∷◌, ◌++◌, length, get_or, set, take, refl, sym, ◌∙◌, ap, subst, ◌⊎◌, inl, inr, arith, length-append, length-set, Vec}
use Rattle.std.specs.Prelude.{slice_index}
use Rattle.std.specs.declared.alloc.Global.{Global}
use Rattle.std.proofs.lemmas.Bool.{cases_lt, cases_eq}
use Rattle.std.proofs.lemmas.List.{get_or_append_left, get_or-append_right}
use Rattle.clause_form.specs.Clauses.{has}
use Rattle.clause_solver.specs.Assigned.{at}
use Rattle.clause_solver.specs.Occurrences.{literal_index, numbers_in, Pushed, Noted, AreOccurrences, IsEmptyOf}
use Rattle.clause_solver.proofs.Scanning.{has-take_next}

pub numbers_in-read : (lists : List (Vec ℕ Global)) (q : ℕ) (d : Vec ℕ Global) → q < length lists
    → numbers_in lists q ≡ (get_or lists q d).items
numbers_in-read [] q d lt = absurd (omega arith)
numbers_in-read (list ∷ lists) zero d lt = refl
numbers_in-read (list ∷ lists) (suc q) d lt = numbers_in-read lists q d (omega arith)

numbers_in-set_same : (lists : List (Vec ℕ Global)) (q : ℕ) (list : Vec ℕ Global) → q < length lists
    → numbers_in (set lists q list) q ≡ list.items
numbers_in-set_same [] q list lt = absurd (omega arith)
numbers_in-set_same (first ∷ lists) zero list lt = refl
numbers_in-set_same (first ∷ lists) (suc q) list lt = numbers_in-set_same lists q list (omega arith)

numbers_in-set_other : (lists : List (Vec ℕ Global)) (q r : ℕ) (list : Vec ℕ Global) → r ≢ q
    → numbers_in (set lists q list) r ≡ numbers_in lists r
numbers_in-set_other [] q r list ne = refl
numbers_in-set_other (first ∷ lists) zero zero list ne = absurd (ne refl)
numbers_in-set_other (first ∷ lists) zero (suc r) list ne = refl
numbers_in-set_other (first ∷ lists) (suc q) zero list ne = refl
numbers_in-set_other (first ∷ lists) (suc q) (suc r) list ne = numbers_in-set_other lists q r list (λ e. ne (ap suc e))

-- a list is set to itself with a number more
pub pushed-set : (lists : List (Vec ℕ Global)) (q number : ℕ) (list : Vec ℕ Global) → q < length lists
    → list.items ≡ numbers_in lists q ++ number ∷ [] → Pushed lists (set lists q list) q number
pushed-set lists q number list lt e = record {
  size = length-set lists q list;
  here = numbers_in-set_same lists q list lt ∙ e;
  there = λ r ne. numbers_in-set_other lists q r list ne;
}

-- one more list that is empty
pub empty-push : (lists : List (Vec ℕ Global)) (list : Vec ℕ Global) → list.items ≡ []
    → ((q : ℕ) → numbers_in lists q ≡ []) → (q : ℕ) → numbers_in (lists ++ list ∷ []) q ≡ []
empty-push [] list e none zero = e
empty-push [] list e none (suc q) = refl
empty-push (first ∷ lists) list e none zero = none zero
empty-push (first ∷ lists) list e none (suc q) = empty-push lists list e (λ r. none (suc r)) q

module _ (old new : List (Vec ℕ Global)) (s number : ℕ) (pushed : Pushed old new s number) where
  pushed-kept : (q j : ℕ) → j < length (numbers_in old q)
      → (j < length (numbers_in new q)) × (slice_index (numbers_in new q) j ≡ slice_index (numbers_in old q) j)
  pushed-kept q j lt = elim (cases_eq q s) [
    | inr ne ↦ (omega (arith, ap length (pushed.there q ne)), ap (λ xs. slice_index xs j) (pushed.there q ne))
    | inl e ↦
        let here : numbers_in new q ≡ numbers_in old q ++ number ∷ [] = subst (λ r. numbers_in new r ≡ numbers_in old r ++ number ∷ []) (sym e) pushed.here in
        (omega (arith, ap length here, length-append (numbers_in old q) (number ∷ [])), ap (λ xs. slice_index xs j) here ∙ get_or_append_left (numbers_in old q) (number ∷ []) 0 j lt)
  ]

  pushed-only : (q j : ℕ) → j < length (numbers_in new q)
      → (slice_index (numbers_in new q) j ≡ number)
      ⊎ ((j < length (numbers_in old q)) × (slice_index (numbers_in new q) j ≡ slice_index (numbers_in old q) j))
  pushed-only q j lt = elim (cases_lt j (length (numbers_in old q))) [
    | inl below ↦ inr (below, (pushed-kept q j below).1)
    | inr above ↦ elim (cases_eq q s) [
      | inr ne ↦ absurd (omega (arith, ap length (pushed.there q ne)))
      | inl e ↦
          let here : numbers_in new q ≡ numbers_in old q ++ number ∷ [] = subst (λ r. numbers_in new r ≡ numbers_in old r ++ number ∷ []) (sym e) pushed.here in
          let first : j - length (numbers_in old q) ≡ 0 = omega (arith, ap length here, length-append (numbers_in old q) (number ∷ [])) in
          inl (ap (λ xs. slice_index xs j) here ∙ get_or-append_right (numbers_in old q) (number ∷ []) (length (numbers_in old q)) j 0 refl above ∙ ap (λ i. get_or (number ∷ []) i 0) first)
    ]
  ]

  pushed-here : (j : ℕ) × (j < length (numbers_in new s)) × (slice_index (numbers_in new s) j ≡ number)
  pushed-here =
      let size = length (numbers_in old s) in
      let first : size - size ≡ 0 = omega arith in (
        size,
        omega (arith, ap length pushed.here, length-append (numbers_in old s) (number ∷ [])),
        ap (λ xs. slice_index xs size) pushed.here ∙ get_or-append_right (numbers_in old s) (number ∷ []) size size 0 refl (omega arith) ∙ ap (λ i. get_or (number ∷ []) i 0) first,
      )

-- the literals so far are noted, and then one more
pub noted-next : (old mid new : List (Vec ℕ Global)) (c : List ℤ) (i number : ℕ) → Noted old mid (take i c) number
    → Pushed mid new (literal_index (at c i)) number → Noted old new (take (i + 1) c) number
noted-next old mid new c i number noted pushed = record {
  size = pushed.size ∙ noted.size;
  kept = λ q j lt.
      let first = noted.kept q j lt in
      let then = pushed-kept mid new (literal_index (at c i)) number pushed q j first.0 in
      (then.0, then.1 ∙ first.1);
  only = λ q j lt. elim (pushed-only mid new (literal_index (at c i)) number pushed q j lt) [
    | inl e ↦ inl e
    | inr x ↦ elim (noted.only q j x.0) [ inl e ↦ inl (x.1 ∙ e) | inr y ↦ inr (y.0, x.1 ∙ y.1) ]
  ];
  noted = λ l h. elim (has-take_next c i l h) [
    | inl before ↦
        let first = noted.noted l before in
        let then = pushed-kept mid new (literal_index (at c i)) number pushed (literal_index l) first.0 first.1 in
        (first.0, then.0, then.1 ∙ first.2)
    | inr e ↦ subst (λ m. (j : ℕ) × (j < length (numbers_in new (literal_index m))) × (slice_index (numbers_in new (literal_index m)) j ≡ number)) e (pushed-here mid new (literal_index (at c i)) number pushed)
  ];
}

pub noted-none : (lists : List (Vec ℕ Global)) (number : ℕ) → Noted lists lists [] number
noted-none lists number = record {
  size = refl;
  kept = λ q j lt. (lt, refl);
  only = λ q j lt. inr (lt, refl);
  noted = λ l h. absurd (cc);
}

-- no clause is held at the start
pub occurrences-none : (variables : ℕ) (lists : List (Vec ℕ Global)) → IsEmptyOf variables lists
    → AreOccurrences variables [] lists
occurrences-none variables lists empty = record {
  size = empty.size;
  complete = λ l k lt h. absurd (omega arith);
  numbers = λ q j lt. absurd (omega (arith, ap length (empty.empty q)));
}

-- one more clause is held
pub occurrences-more : (variables number : ℕ) (clauses : List (List ℤ)) (c : List ℤ) (old new : List (Vec ℕ Global))
    → AreOccurrences variables clauses old → Noted old new c number → number ≡ length clauses + 1
    → AreOccurrences variables (clauses ++ c ∷ []) new
occurrences-more variables number clauses c old new held noted e =
    let size = length-append clauses (c ∷ []) in
    record {
      size = noted.size ∙ held.size;
      complete = λ l k lt h. elim (cases_lt k (length clauses)) [
        | inl below ↦
            let found = held.complete l k below (ap (has l) (sym (get_or_append_left clauses (c ∷ []) [] k below)) ∙ h) in
            let kept = noted.kept (literal_index l) found.0 found.1 in
            (found.0, kept.0, kept.1 ∙ found.2)
        | inr above ↦
            let last : k - length clauses ≡ 0 = omega (arith, size) in
            let here = get_or-append_right clauses (c ∷ []) (length clauses) k [] refl above ∙ ap (λ i. get_or (c ∷ []) i []) last in
            let found = noted.noted l (ap (has l) (sym here) ∙ h) in
            (found.0, found.1, omega (arith, found.2, size))
      ];
      numbers = λ q j lt. elim (noted.only q j lt) [
        | inl new ↦ (omega (arith, new), omega (arith, new, size))
        | inr x ↦ let in_range = held.numbers q j x.0 in (omega (arith, in_range.0, x.1), omega (arith, in_range.1, x.1, size))
      ];
    }
