-- What is open ends where its line or the characters end: otherwise more would belong to it.
use Rattle.std.proofs.Common.{◌≡◌, ◌≢◌, ◌⊎◌, inl, inr, ℕ, ◌+◌, ◌-◌, Bool, true, false, Option, Some, None, List, [], ◌∷◌, ◌++◌, length, get_or, sym, refl, ap, ◌∙◌, subst, arith, append_assoc, length-append}
use Rattle.std.proofs.lemmas.Bool.{cases_lt, cases_eq}
use Rattle.std.proofs.lemmas.Bool.Decides.{nat_tests}
use Rattle.std.proofs.lemmas.List.{get_or_past}
use Rattle.std.proofs.Math.ListN.{get_or-append}
use Rattle.std.proofs.Math.Seq.{get_or-append_seam}
use Rattle.java_tokens.specs.declared.token.TokenKind.TheVariants as kind
use Rattle.java_tokens.specs.declared.lexeme.Lexeme.{Lexeme}
use Rattle.java_tokens.specs.declared.lexeme.Lexeme.TheVariants.{Comment, Token, Malformed}
use Rattle.java_tokens.specs.declared.lexeme.Flaw.TheVariants as flaw
use Rattle.java_tokens.specs.Characters.{is_line_end, is_plain, escaped, first_passes}
use Rattle.java_tokens.specs.Spelling.{SpellsCharacters}
use Rattle.java_tokens.specs.Lexemes.{IsOpenString, IsOpenComment, IsLexeme, IsLongest}
use Rattle.java_tokens.proofs.Strings.{spelled-push}

-- nothing that is one character longer is anything
no_next : (text : List ℕ) (c : ℕ) (rest : List ℕ) (lexeme : Lexeme) → IsLongest text (c ∷ rest) → IsLexeme lexeme (text ++ c ∷ []) → ⊥
no_next text c rest lexeme longest is = let none = longest lexeme (c ∷ []) rest refl is in absurd (cc)

-- ---- strings

module _ (text rest : List ℕ) (c : ℕ) (longest : IsLongest text (c ∷ rest)) (characters body : List ℕ) (spelled : SpellsCharacters characters body) where
  regroup : (last : List ℕ) → text ≡ 34 ∷ (body ++ last) → text ++ c ∷ [] ≡ 34 ∷ (body ++ (last ++ c ∷ []))
  regroup last is = ap (λ t. t ++ c ∷ []) is ∙ ap (λ b. 34 ∷ b) (append_assoc body last (c ∷ []))

  -- after a backslash an escape goes on, or is a bad one
  behind-backslash : text ≡ 34 ∷ (body ++ 92 ∷ []) → ⊥
  behind-backslash is = by_escape (escaped c) refl where
    by_escape : (o : Option ℕ) → escaped c ≡ o → ⊥
    by_escape (Some m) means =
        no_next text c rest (Malformed flaw.OpenString) longest
        (record {
          characters = characters ++ m ∷ [];
          body = body ++ 92 ∷ c ∷ [];
          spelled = spelled-push characters body m (92 ∷ c ∷ []) spelled (inr (c, refl, means));
          is = inl (regroup (92 ∷ []) is);
        })
    by_escape None means =
        no_next text c rest (Malformed flaw.Escape) longest
        (record { characters = characters; body = body; letter = c; spelled = spelled; is = regroup (92 ∷ []) is; no_escape = means })

  -- elsewhere the line ends
  behind-character : text ≡ 34 ∷ body → is_line_end c ≡ true
  behind-character is = by_end (is_line_end c) refl where
    next : text ++ c ∷ [] ≡ 34 ∷ (body ++ c ∷ [])
    next = ap (λ t. t ++ c ∷ []) is

    plain : is_plain c ≡ true → ⊥
    plain passes =
        no_next text c rest (Malformed flaw.OpenString) longest
        (record {
          characters = characters ++ c ∷ [];
          body = body ++ c ∷ [];
          spelled = spelled-push characters body c (c ∷ []) spelled (inl (refl, passes));
          is = inl next;
        })

    quote : c ≡ 34 → ⊥
    quote same = no_next text c rest (Token (kind.Text characters)) longest (body, next ∙ ap (λ d. 34 ∷ (body ++ d ∷ [])) same, spelled)

    backslash : c ≡ 92 → ⊥
    backslash same =
        no_next text c rest (Malformed flaw.OpenString) longest
        (record { characters = characters; body = body; spelled = spelled; is = inr (next ∙ ap (λ d. 34 ∷ (body ++ d ∷ [])) same) })

    by_end : (b : Bool) → is_line_end c ≡ b → is_line_end c ≡ true
    by_end true ends = ends
    by_end false ends =
        elim (cases_eq c 34) [
          | inl same ↦ absurd (quote same)
          | inr other ↦ elim (cases_eq c 92) [
            | inl same ↦ absurd (backslash same)
            | inr another ↦ let passes : is_plain c ≡ true = grind (arith, nat_tests) in absurd (plain passes)
          ]
        ]

pub open_string-over : (text rest : List ℕ) → IsOpenString text → IsLongest text rest → (rest ≡ []) ⊎ (first_passes is_line_end rest ≡ true)
open_string-over text [] is longest = inl refl
open_string-over text (c ∷ rest) is longest = by_last is.is where
  by_last : (text ≡ 34 ∷ is.body) ⊎ (text ≡ 34 ∷ (is.body ++ 92 ∷ [])) → (c ∷ rest ≡ []) ⊎ (is_line_end c ≡ true)
  by_last (inl end) = inr (behind-character text rest c longest is.characters is.body is.spelled end)
  by_last (inr end) = absurd (behind-backslash text rest c longest is.characters is.body is.spelled end)

-- ---- comments

-- the last character of a list that has one
data IsLast (body : List ℕ) : Type 0 where
  empty : body ≡ [] → IsLast body
  ends : (front : List ℕ) (c : ℕ) → body ≡ front ++ c ∷ [] → IsLast body

last : (body : List ℕ) → IsLast body
last [] = empty refl
last (c ∷ cs) = by_rest (last cs) where
  by_rest : IsLast cs → IsLast (c ∷ cs)
  by_rest (empty is) = ends [] c (ap (λ t. c ∷ t) is)
  by_rest (ends front d is) = ends (c ∷ front) d (ap (λ t. c ∷ t) is)

abbrev NoEnd : List ℕ → Type 0
NoEnd body = (i : ℕ) → get_or body i 0 ≡ 42 → get_or body (i + 1) 0 ≢ 47

-- without its last character
no_end-front : (front : List ℕ) (c : ℕ) → NoEnd (front ++ c ∷ []) → NoEnd front
no_end-front front c none i star slash =
    elim (cases_lt (i + 1) (length front)) [
      | inl below ↦
          none i (get_or-append front (c ∷ []) 0 i (omega arith) ∙ star) (get_or-append front (c ∷ []) 0 (i + 1) below ∙ slash)
      | inr past ↦ let zero = get_or_past front (i + 1) 0 past in absurd (omega arith)
    ]

-- with one more, which isn't `/` after `*`
no_end-push : (body : List ℕ) (c : ℕ) → NoEnd body → (get_or body (length body - 1) 0 ≡ 42 → c ≡ 47 → ⊥) → NoEnd (body ++ c ∷ [])
no_end-push body c none apart i star slash =
    elim (cases_lt (i + 1) (length body)) [
      | inl below ↦
          none i (sym (get_or-append body (c ∷ []) 0 i (omega arith)) ∙ star) (sym (get_or-append body (c ∷ []) 0 (i + 1) below) ∙ slash)
      | inr past ↦ elim (cases_eq (i + 1) (length body)) [
        | inl here ↦
            let seam = get_or-append_seam body c [] 0 in
            let place : i ≡ length body - 1 = omega arith in
            let first = sym (ap (λ j. get_or body j 0) place) ∙ sym (get_or-append body (c ∷ []) 0 i (omega arith)) ∙ star in
            let second = sym seam ∙ sym (ap (λ j. get_or (body ++ c ∷ []) j 0) here) ∙ slash in
            apart first second
        | inr beyond ↦
            let zero = get_or_past (body ++ c ∷ []) (i + 1) 0 (omega (arith, length-append body (c ∷ []))) in absurd (omega arith)
      ]
    ]

module _ (text rest : List ℕ) (c : ℕ) (longest : IsLongest text (c ∷ rest)) (comment : IsOpenComment text) where
  next : text ++ c ∷ [] ≡ 47 ∷ 42 ∷ (comment.body ++ c ∷ [])
  next = ap (λ t. t ++ c ∷ []) comment.is

  -- `*/` closes it
  not_closed : get_or comment.body (length comment.body - 1) 0 ≡ 42 → c ≡ 47 → ⊥
  not_closed star slash = by_last (last comment.body) where
    by_last : IsLast comment.body → ⊥
    by_last (empty none) =
        let past = get_or_past comment.body (length comment.body - 1) 0 (omega (arith, ap length none)) in absurd (omega arith)
    by_last (ends front d is) =
        let size : length comment.body - 1 ≡ length front = omega (arith, ap length is, length-append front (d ∷ [])) in
        let same : d ≡ 42 =
        sym (get_or-append_seam front d [] 0) ∙ sym (ap (λ b. get_or b (length front) 0) is)
        ∙ sym (ap (λ j. get_or comment.body j 0) size) ∙ star in
        let closed : text ++ c ∷ [] ≡ (47 ∷ 42 ∷ front) ++ 42 ∷ 47 ∷ [] =
        next ∙ (λ i. 47 ∷ 42 ∷ (is i ++ slash i ∷ [])) ∙ ap (λ b. 47 ∷ 42 ∷ b) (append_assoc front (d ∷ []) (47 ∷ []))
        ∙ ap (λ e. 47 ∷ 42 ∷ (front ++ e ∷ 47 ∷ [])) same in
        no_next text c rest Comment longest
        (inr (record {
          front = 47 ∷ 42 ∷ front;
          is = closed;
          opened = record { body = front; is = refl; no_end = no_end-front front d (subst NoEnd is comment.no_end) };
        }))

  goes_on : ⊥
  goes_on =
      no_next text c rest (Malformed flaw.OpenComment) longest
      (record { body = comment.body ++ c ∷ []; is = next; no_end = no_end-push comment.body c comment.no_end not_closed })

pub open_comment-over : (text rest : List ℕ) → IsOpenComment text → IsLongest text rest → rest ≡ []
open_comment-over text [] comment longest = refl
open_comment-over text (c ∷ rest) comment longest = absurd (goes_on text rest c longest comment)
