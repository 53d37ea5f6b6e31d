-- How a string is read, a character or an escape at a time.
use Rattle.std.proofs.Common.{◌≡◌, ◌≢◌, inl, inr, ℕ, ◌+◌, ◌<◌, ◌≤◌, true, false, List, [], ◌∷◌, ◌++◌, Some, None, length, take, drop, get_or, sym, refl, ap, ◌∙◌, subst, arith, append_assoc}
use Rattle.std.proofs.lemmas.Bool.Decides.{nat_tests}
use Rattle.std.proofs.lemmas.List.{take_more, drop_more}
use Rattle.java_tokens.specs.declared.lexeme.Lexeme.{Lexeme}
use Rattle.java_tokens.specs.declared.token.TokenKind.TheVariants as kind
use Rattle.java_tokens.specs.declared.lexeme.Lexeme.TheVariants.{Token, Malformed}
use Rattle.java_tokens.specs.declared.lexeme.Flaw.TheVariants as flaw
use Rattle.java_tokens.specs.Characters.{is_line_end, is_plain, escaped, first_passes}
use Rattle.java_tokens.specs.Spelling.{SpellsCharacters}
use Rattle.java_tokens.specs.Lexemes.{IsOpenString}
use Rattle.java_tokens.specs.Reading.{IsScanned}
use Rattle.java_tokens.proofs.Strings.{spelled-push}
use Rattle.java_tokens.proofs.Longest.{longest-closed, longest-bad, longest-line_end}
use Rattle.java_tokens.proofs.Scans.{scanned}

-- in front of the offset at stand `"` and the spellings of these characters
pub record HasRead (xs characters : List ℕ) (at : ℕ) : Type 0 where
  pub body : List ℕ
  pub within : at ≤ length xs
  pub front : take at xs ≡ 34 ∷ body
  pub spelled : SpellsCharacters characters body

module _ (xs characters : List ℕ) (at : ℕ) (read : HasRead xs characters at) where
  -- one character further, and two
  front-one : (c : ℕ) → at < length xs → get_or xs at 0 ≡ c → take (at + 1) xs ≡ 34 ∷ (read.body ++ c ∷ [])
  front-one c below is = take_more xs at 0 below ∙ (λ i. read.front i ++ is i ∷ [])

  front-two : (c d : ℕ) → at + 1 < length xs → get_or xs at 0 ≡ c → get_or xs (at + 1) 0 ≡ d → take (at + 2) xs ≡ 34 ∷ (read.body ++ c ∷ d ∷ [])
  front-two c d below first second =
      let two : at + 2 ≡ at + 1 + 1 = omega arith in
      ap (λ n. take n xs) two ∙ take_more xs (at + 1) 0 below ∙ (λ i. front-one c (omega arith) first i ++ second i ∷ [])
      ∙ ap (λ b. 34 ∷ b) (append_assoc read.body (c ∷ []) (d ∷ []))

  pub read-plain : (more : List ℕ) (c : ℕ) → at < length xs → get_or xs at 0 ≡ c → c ≢ 34 → c ≢ 92 → is_line_end c ≡ false → more ≡ characters ++ c ∷ [] → HasRead xs more (at + 1)
  read-plain more c below is not_quote not_backslash in_line pushed =
      let plain : is_plain c ≡ true = grind (arith, nat_tests) in
      record {
        body = read.body ++ c ∷ [];
        within = omega arith;
        front = front-one c below is;
        spelled = subst (λ cs. SpellsCharacters cs (read.body ++ c ∷ [])) (sym pushed) (spelled-push characters read.body c (c ∷ []) read.spelled (inl (refl, plain)));
      }

  pub read-escape : (more : List ℕ) (letter c : ℕ) → at + 1 < length xs → get_or xs at 0 ≡ 92 → get_or xs (at + 1) 0 ≡ letter → escaped letter ≡ Some c → more ≡ characters ++ c ∷ [] → HasRead xs more (at + 2)
  read-escape more letter c below backslash is means pushed = record {
    body = read.body ++ 92 ∷ letter ∷ [];
    within = omega arith;
    front = front-two 92 letter below backslash is;
    spelled = subst (λ cs. SpellsCharacters cs (read.body ++ 92 ∷ letter ∷ [])) (sym pushed) (spelled-push characters read.body c (92 ∷ letter ∷ []) read.spelled (inr (letter, refl, means)));
  }

  pub scanned-string : at < length xs → get_or xs at 0 ≡ 34 → IsScanned xs (Token (kind.Text characters)) (at + 1)
  scanned-string below quote =
      scanned xs (Token (kind.Text characters)) (at + 1) (34 ∷ (read.body ++ 34 ∷ [])) (omega arith) (front-one 34 below quote)
      (read.body, refl, read.spelled) (longest-closed characters read.body read.spelled (drop (at + 1) xs))

  pub scanned-escape : (letter : ℕ) → at + 1 < length xs → get_or xs at 0 ≡ 92 → get_or xs (at + 1) 0 ≡ letter → escaped letter ≡ None → IsScanned xs (Malformed flaw.Escape) (at + 2)
  scanned-escape letter below backslash is none =
      scanned xs (Malformed flaw.Escape) (at + 2) (34 ∷ (read.body ++ 92 ∷ letter ∷ [])) (omega arith) (front-two 92 letter below backslash is)
      (record { characters = characters; body = read.body; letter = letter; spelled = read.spelled; is = refl; no_escape = none })
      (longest-bad characters read.body read.spelled letter (drop (at + 2) xs) none)

  open_string : IsOpenString (34 ∷ read.body)
  open_string = record { characters = characters; body = read.body; spelled = read.spelled; is = inl refl }

  pub scanned-line_end : at < length xs → is_line_end (get_or xs at 0) ≡ true → IsScanned xs (Malformed flaw.OpenString) at
  scanned-line_end below ends =
      let behind : first_passes is_line_end (drop at xs) ≡ true = ap (first_passes is_line_end) (drop_more xs at 0 below) ∙ ends in
      scanned xs (Malformed flaw.OpenString) at (34 ∷ read.body) read.within read.front open_string
      (longest-line_end characters read.body read.spelled (drop at xs) behind)

pub lexeme_at : (xs : List ℕ) (lexeme other : Lexeme) (n m : ℕ) → other ≡ lexeme → m ≡ n → IsScanned xs lexeme n → IsScanned xs other m
lexeme_at xs lexeme other n m same size is = subst (λ l. IsScanned xs l m) (sym same) (subst (IsScanned xs lexeme) (sym size) is)
