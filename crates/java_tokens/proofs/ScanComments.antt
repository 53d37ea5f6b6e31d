-- What the scanner finds where a comment up to `*/` begins.
use Rattle.std.proofs.Common.{◌≡◌, ◌≢◌, ◌⊎◌, inl, inr, ℕ, ◌+◌, ◌-◌, ◌<◌, ◌≤◌, true, false, List, [], ◌∷◌, ◌++◌, length, take, drop, get_or, sym, refl, ap, ◌∙◌, subst, arith, append_assoc, length-drop}
use Rattle.std.proofs.lemmas.Bool.{cases_lt}
use Rattle.std.proofs.lemmas.List.{take_more, take_all, drop_all, get_or-drop, get_or-take, get_or_past, length-take-le}
use Rattle.java_tokens.specs.declared.lexeme.Lexeme.TheVariants.{Comment, Malformed}
use Rattle.java_tokens.specs.declared.lexeme.Flaw.TheVariants as flaw
use Rattle.java_tokens.specs.Lexemes.{IsOpenComment, IsLongest}
use Rattle.java_tokens.specs.Reading.{IsScanned, begins_pair}
use Rattle.java_tokens.proofs.Comments.{begins_pair-reads}
use Rattle.java_tokens.proofs.Longest.{longest-nil}
use Rattle.java_tokens.proofs.LongestSign.{longest-block}
use Rattle.java_tokens.proofs.Scans.{scanned, pair-front, pair-from-reads, take-two, drop-two}

-- no `*/` begins at the first places
abbrev NoneBelow : List ℕ → ℕ → Type 0
NoneBelow ys k = (i : ℕ) → i < k → begins_pair 42 47 (drop i ys) ≡ false

-- so none stands in what is in front
no_end : (ys : List ℕ) (k : ℕ) → k ≤ length ys → NoneBelow ys k → (i : ℕ) → get_or (take k ys) i 0 ≡ 42 → get_or (take k ys) (i + 1) 0 ≢ 47
no_end ys k within none i star slash = by_order (cases_lt (i + 1) k) where
  by_order : (i + 1 < k) ⊎ (k ≤ i + 1) → ⊥
  by_order (inl below) =
      let first = sym (get_or-take k ys i 0 (omega arith)) ∙ star in
      let second = sym (get_or-take k ys (i + 1) 0 below) ∙ slash in
      let pair = pair-from-reads 42 47 ys i (omega arith) first second in
      let not = none i (omega arith) in
      absurd (cc)
  by_order (inr past) = let past_end = get_or_past (take k ys) (i + 1) 0 (omega (arith, length-take-le k ys within)) in absurd (omega arith)

closed : (ys : List ℕ) (k : ℕ) → k + 1 < length ys → get_or ys k 0 ≡ 42 → get_or ys (k + 1) 0 ≡ 47 → NoneBelow ys k → IsScanned (47 ∷ 42 ∷ ys) Comment (2 + (k + 1 + 1))
closed ys k within star slash none =
    let body = take k ys in
    let one : take (k + 1) ys ≡ body ++ 42 ∷ [] = take_more ys k 0 (omega arith) ∙ ap (λ c. body ++ c ∷ []) star in
    let two : take (k + 1 + 1) ys ≡ body ++ 42 ∷ 47 ∷ [] =
    take_more ys (k + 1) 0 within ∙ (λ i. one i ++ slash i ∷ []) ∙ append_assoc body (42 ∷ []) (47 ∷ []) in
    let opened : IsOpenComment (47 ∷ 42 ∷ body) = record { body = body; is = refl; no_end = no_end ys k (omega arith) none } in
    scanned (47 ∷ 42 ∷ ys) Comment (2 + (k + 1 + 1)) (47 ∷ 42 ∷ (body ++ 42 ∷ 47 ∷ [])) (omega arith)
    (take-two 47 42 (k + 1 + 1) ys ∙ ap (λ t. 47 ∷ 42 ∷ t) two)
    (inr (record { front = 47 ∷ 42 ∷ body; is = refl; opened = opened }))
    (longest-block body (drop (2 + (k + 1 + 1)) (47 ∷ 42 ∷ ys)))

unclosed : (ys : List ℕ) → NoneBelow ys (length ys) → IsScanned (47 ∷ 42 ∷ ys) (Malformed flaw.OpenComment) (length (47 ∷ 42 ∷ ys))
unclosed ys none =
    let xs = 47 ∷ 42 ∷ ys in
    let whole : take (length ys) ys ≡ ys = take_all (length ys) ys (omega arith) in
    let opened : IsOpenComment xs = record {
      body = ys;
      is = refl;
      no_end = subst (λ b. (i : ℕ) → get_or b i 0 ≡ 42 → get_or b (i + 1) 0 ≢ 47) whole (no_end ys (length ys) (omega arith) none);
    } in
    scanned xs (Malformed flaw.OpenComment) (length xs) xs (omega arith) (take_all (length xs) xs (omega arith)) opened
    (subst (IsLongest xs) (sym (drop_all (length xs) xs (omega arith))) (longest-nil xs))

-- no `*/` begins at a place between the second and this one
abbrev pub Passed : List ℕ → ℕ → Type 0
Passed xs at = (i : ℕ) → i + 2 < at → begins_pair 42 47 (drop (i + 2) xs) ≡ false

behind-two : (ys : List ℕ) (i : ℕ) → drop (i + 2) (47 ∷ 42 ∷ ys) ≡ drop i ys
behind-two ys i = let swap : i + 2 ≡ 2 + i = omega arith in ap (λ j. drop j (47 ∷ 42 ∷ ys)) swap ∙ drop-two 47 42 i ys

none-below : (ys : List ℕ) (k : ℕ) → Passed (47 ∷ 42 ∷ ys) (2 + k) → NoneBelow ys k
none-below ys k passed i below = ap (begins_pair 42 47) (sym (behind-two ys i)) ∙ passed i (omega arith)

unclosed-at : (ys : List ℕ) → Passed (47 ∷ 42 ∷ ys) (length (47 ∷ 42 ∷ ys)) → IsScanned (47 ∷ 42 ∷ ys) (Malformed flaw.OpenComment) (length (47 ∷ 42 ∷ ys))
unclosed-at ys passed =
    let size : length (47 ∷ 42 ∷ ys) ≡ 2 + length ys = omega arith in
    unclosed ys (none-below ys (length ys) (subst (Passed (47 ∷ 42 ∷ ys)) size passed))

closed-at : (ys : List ℕ) (at k : ℕ) → at ≡ 2 + k → begins_pair 42 47 (drop at (47 ∷ 42 ∷ ys)) ≡ true → Passed (47 ∷ 42 ∷ ys) at → IsScanned (47 ∷ 42 ∷ ys) Comment (at + 2)
closed-at ys at k place ends passed =
    let here : drop at (47 ∷ 42 ∷ ys) ≡ drop k ys = ap (λ j. drop j (47 ∷ 42 ∷ ys)) place ∙ drop-two 47 42 k ys in
    let pair : begins_pair 42 47 (drop k ys) ≡ true = ap (begins_pair 42 47) (sym here) ∙ ends in
    let reads = begins_pair-reads 42 47 (drop k ys) pair in
    let star : get_or ys (k + 0) 0 ≡ 42 = sym (get_or-drop k ys 0 0) ∙ reads.0 in
    let slash : get_or ys (k + 1) 0 ≡ 47 = sym (get_or-drop k ys 1 0) ∙ reads.1 in
    let zero : k + 0 ≡ k = omega arith in
    let within : k + 1 < length ys = omega (arith, ap length (pair-front 42 47 (drop k ys) pair), length-drop k ys) in
    let size : 2 + (k + 1 + 1) ≡ at + 2 = omega arith in
    subst (IsScanned (47 ∷ 42 ∷ ys) Comment) size
    (closed ys k within (sym (ap (λ j. get_or ys j 0) zero) ∙ star) slash (none-below ys k (subst (Passed (47 ∷ 42 ∷ ys)) place passed)))

pub scanned-unclosed : (xs : List ℕ) → begins_pair 47 42 xs ≡ true → Passed xs (length xs) → IsScanned xs (Malformed flaw.OpenComment) (length xs)
scanned-unclosed xs begins passed =
    let front = pair-front 47 42 xs begins in
    subst (λ ys. IsScanned ys (Malformed flaw.OpenComment) (length ys)) (sym front) (unclosed-at (drop 2 xs) (subst (λ ys. Passed ys (length ys)) front passed))

pub scanned-closed : (xs : List ℕ) (at : ℕ) → begins_pair 47 42 xs ≡ true → 2 ≤ at → begins_pair 42 47 (drop at xs) ≡ true → Passed xs at → IsScanned xs Comment (at + 2)
scanned-closed xs at begins order ends passed =
    let front = pair-front 47 42 xs begins in
    subst (λ ys. IsScanned ys Comment (at + 2)) (sym front)
    (closed-at (drop 2 xs) at (at - 2) (omega arith) (ap (λ ys. begins_pair 42 47 (drop at ys)) (sym front) ∙ ends) (subst (λ ys. Passed ys at) front passed))
