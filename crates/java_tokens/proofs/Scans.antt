-- What the scanner finds at the front of characters, and that nothing longer begins there.
use Rattle.std.proofs.Common.{◌≡◌, ◌≢◌, inl, ℕ, suc, ◌+◌, ◌<◌, ◌≤◌, Bool, true, false, List, [], ◌∷◌, ◌++◌, length, take, drop, get_or, sym, refl, ap, ◌∙◌, subst, arith, length-drop}
use Rattle.std.specs.List.{list_all, prefix_len, between}
use Rattle.std.proofs.lemmas.Bool.{and_parts, cond-true, leb-true}
use Rattle.std.proofs.lemmas.Bool.Decides.{nat_tests}
use Rattle.std.proofs.lemmas.List.{take-append-drop, get_or-drop}
use Rattle.std.proofs.lemmas.List.Sums.{prefix_len-le-length}
use Rattle.std.proofs.lemmas.Slice.{between_to_end}
use Rattle.std.proofs.lemmas.Slice.Eq.{bytes_eq-Decides}
use Rattle.java_tokens.specs.declared.token.TokenKind.TheVariants as kind
use Rattle.java_tokens.specs.declared.token.Operator.{Operator}
use Rattle.java_tokens.specs.declared.lexeme.Lexeme.{Lexeme}
use Rattle.java_tokens.specs.declared.lexeme.Lexeme.TheVariants.{White, Comment, Token, Malformed}
use Rattle.java_tokens.specs.declared.lexeme.Flaw.TheVariants as flaw
use Rattle.java_tokens.specs.Characters.{is_white, is_digit, is_identifier_start, is_identifier_part, is_in_line, first_passes}
use Rattle.java_tokens.specs.Spelling.{operator_text}
use Rattle.java_tokens.specs.Lexemes.{IsLexeme, IsLongest}
use Rattle.java_tokens.specs.Reading.{starts_with, IsLongestOperator, IsScanned, begins_pair, IsOther}
use Rattle.java_tokens.proofs.Classes.{class_of, class-digit, class-start, part-digit, part-start}
use Rattle.java_tokens.proofs.Comments.{begins_pair-reads}
use Rattle.java_tokens.proofs.Longest.{longest-white, is_word_class, longest-word}
use Rattle.java_tokens.proofs.LongestSign.{longest-line, longest-other, starts_with-prefix}
use Rattle.java_tokens.proofs.Runs.{list_all-run, first_passes-behind}
use Rattle.java_tokens.proofs.Spellings.{some-operator_text}

-- a front that is this text
pub scanned : (xs : List ℕ) (lexeme : Lexeme) (n : ℕ) (text : List ℕ) → n ≤ length xs → take n xs ≡ text → IsLexeme lexeme text → IsLongest text (drop n xs) → IsScanned xs lexeme n
scanned xs lexeme n text within front is longest = record {
  within = within;
  is = subst (IsLexeme lexeme) (sym front) is;
  longest = subst (λ t. IsLongest t (drop n xs)) (sym front) longest;
}

pub scanned-white : (xs : List ℕ) → 0 < length xs → is_white (get_or xs 0 0) ≡ true → IsScanned xs White 1
scanned-white [] some white = absurd (omega arith)
scanned-white (c ∷ cs) some white =
    scanned (c ∷ cs) White 1 (c ∷ []) (omega arith) refl (record { character = c; alone = refl; white = white }) (longest-white c cs white)

-- ---- numbers and words

some-prefix : (p : ℕ → Bool) (c : ℕ) (cs : List ℕ) → p c ≡ true → prefix_len p (c ∷ cs) ≡ suc (prefix_len p cs)
some-prefix p c cs passes = let run = cond-true (p c) (1 + prefix_len p cs) 0 passes in omega (arith, run)

scanned-parts : (xs : List ℕ) (lexeme : Lexeme) (n : ℕ) → n ≡ prefix_len is_identifier_part xs → first_passes is_identifier_part xs ≡ true → is_word_class (class_of (get_or xs 0 0)) ≡ true → IsLexeme lexeme (take n xs) → IsScanned xs lexeme n
scanned-parts [] lexeme n count part word is = absurd (cc)
scanned-parts (c ∷ cs) lexeme n count part word is =
    let size : n ≡ suc (prefix_len is_identifier_part cs) = count ∙ some-prefix is_identifier_part c cs part in
    let run = c ∷ take (prefix_len is_identifier_part cs) cs in
    let front : take n (c ∷ cs) ≡ run = ap (λ m. take m (c ∷ cs)) size in
    let behind : drop n (c ∷ cs) ≡ drop (prefix_len is_identifier_part cs) cs = ap (λ m. drop m (c ∷ cs)) size in
    let fails : first_passes is_identifier_part (drop n (c ∷ cs)) ≡ false = ap (first_passes is_identifier_part) behind ∙ first_passes-behind is_identifier_part cs in
    scanned (c ∷ cs) lexeme n run (omega (arith, size, prefix_len-le-length is_identifier_part cs)) front (subst (IsLexeme lexeme) front is)
    (longest-word c (take (prefix_len is_identifier_part cs) cs) (drop n (c ∷ cs)) word fails)

-- the front begins as the whole does, and is made of parts
pub front-parts : (xs : List ℕ) (n : ℕ) → n ≡ prefix_len is_identifier_part xs → list_all is_identifier_part (take n xs) ≡ true
front-parts xs n count = ap (λ m. list_all is_identifier_part (take m xs)) count ∙ list_all-run is_identifier_part xs

front-starts : (p : ℕ → Bool) (xs : List ℕ) (n : ℕ) → ((c : ℕ) → p c ≡ true → is_identifier_part c ≡ true) → n ≡ prefix_len is_identifier_part xs → first_passes p xs ≡ true → first_passes p (take n xs) ≡ true
front-starts p [] n part count starts = absurd (cc)
front-starts p (c ∷ cs) n part count starts =
    let size : n ≡ suc (prefix_len is_identifier_part cs) = count ∙ some-prefix is_identifier_part c cs (part c starts) in
    ap (λ m. first_passes p (take m (c ∷ cs))) size ∙ starts

module _ (xs : List ℕ) (n : ℕ) (count : n ≡ prefix_len is_identifier_part xs) where
  pub digit-starts : first_passes is_digit xs ≡ true → first_passes is_digit (take n xs) ≡ true
  digit-starts starts = front-starts is_digit xs n part-digit count starts

  pub word-starts : first_passes is_identifier_start xs ≡ true → first_passes is_identifier_start (take n xs) ≡ true
  word-starts starts = front-starts is_identifier_start xs n part-start count starts

pub scanned-number : (xs : List ℕ) (lexeme : Lexeme) (n : ℕ) → n ≡ prefix_len is_identifier_part xs → first_passes is_digit xs ≡ true → IsLexeme lexeme (take n xs) → IsScanned xs lexeme n
scanned-number [] lexeme n count starts is = absurd (cc)
scanned-number (c ∷ cs) lexeme n count starts is =
    scanned-parts (c ∷ cs) lexeme n count (part-digit c starts) (ap is_word_class (class-digit c starts)) is

pub scanned-word : (xs : List ℕ) (lexeme : Lexeme) (n : ℕ) → n ≡ prefix_len is_identifier_part xs → first_passes is_identifier_start xs ≡ true → IsLexeme lexeme (take n xs) → IsScanned xs lexeme n
scanned-word [] lexeme n count starts is = absurd (cc)
scanned-word (c ∷ cs) lexeme n count starts is =
    scanned-parts (c ∷ cs) lexeme n count (part-start c starts) (ap is_word_class (class-start c starts)) is

-- ---- comments

pub pair-front : (a b : ℕ) (xs : List ℕ) → begins_pair a b xs ≡ true → xs ≡ a ∷ b ∷ drop 2 xs
pair-front a b [] begins = absurd (cc)
pair-front a b (c ∷ []) begins = absurd (grind (arith, nat_tests))
pair-front a b (c ∷ d ∷ cs) begins =
    let reads = begins_pair-reads a b (c ∷ d ∷ cs) begins in (λ i. reads.0 i ∷ reads.1 i ∷ cs)

pub pair-length : (a b : ℕ) (xs : List ℕ) → begins_pair a b xs ≡ true → 2 ≤ length xs
pair-length a b xs begins = omega (arith, ap length (pair-front a b xs begins))

pub pair-from-reads : (a b : ℕ) (xs : List ℕ) (i : ℕ) → i + 1 < length xs → get_or xs i 0 ≡ a → get_or xs (i + 1) 0 ≡ b → begins_pair a b (drop i xs) ≡ true
pair-from-reads a b xs i within first second = by_rest (drop i xs) (omega (arith, length-drop i xs)) (get_or-drop i xs 0 0 ∙ ap (λ j. get_or xs j 0) none ∙ first) (get_or-drop i xs 1 0 ∙ second) where
  none : i + 0 ≡ i
  none = omega arith

  by_rest : (ys : List ℕ) → 1 < length ys → get_or ys 0 0 ≡ a → get_or ys 1 0 ≡ b → begins_pair a b ys ≡ true
  by_rest [] long x y = absurd (omega arith)
  by_rest (c ∷ []) long x y = absurd (omega arith)
  by_rest (c ∷ d ∷ cs) long x y = grind (arith, nat_tests)

pub take-two : (a b n : ℕ) (ys : List ℕ) → take (2 + n) (a ∷ b ∷ ys) ≡ a ∷ b ∷ take n ys
take-two a b n ys = let two : 2 + n ≡ suc (suc n) = omega arith in ap (λ m. take m (a ∷ b ∷ ys)) two

pub drop-two : (a b n : ℕ) (ys : List ℕ) → drop (2 + n) (a ∷ b ∷ ys) ≡ drop n ys
drop-two a b n ys = let two : 2 + n ≡ suc (suc n) = omega arith in ap (λ m. drop m (a ∷ b ∷ ys)) two

scanned-slashes : (ys : List ℕ) (n : ℕ) → n ≡ prefix_len is_in_line ys → IsScanned (47 ∷ 47 ∷ ys) Comment (2 + n)
scanned-slashes ys n count =
    let passes : list_all is_in_line (take n ys) ≡ true = ap (λ m. list_all is_in_line (take m ys)) count ∙ list_all-run is_in_line ys in
    let behind : drop (2 + n) (47 ∷ 47 ∷ ys) ≡ drop (prefix_len is_in_line ys) ys = drop-two 47 47 n ys ∙ ap (λ m. drop m ys) count in
    scanned (47 ∷ 47 ∷ ys) Comment (2 + n) (47 ∷ 47 ∷ take n ys) (omega (arith, count, prefix_len-le-length is_in_line ys)) (take-two 47 47 n ys)
    (inl (record { body = take n ys; is = refl; in_line = passes }))
    (longest-line (take n ys) (drop (2 + n) (47 ∷ 47 ∷ ys)) (ap (first_passes is_in_line) behind ∙ first_passes-behind is_in_line ys))

pub scanned-line : (xs : List ℕ) (n : ℕ) → begins_pair 47 47 xs ≡ true → n ≡ prefix_len is_in_line (between 2 (length xs) xs) → IsScanned xs Comment (2 + n)
scanned-line xs n begins count =
    let front = pair-front 47 47 xs begins in
    subst (λ ys. IsScanned ys Comment (2 + n)) (sym front)
    (scanned-slashes (drop 2 xs) n (count ∙ ap (prefix_len is_in_line) (between_to_end xs 2 (length xs) (omega arith))))

-- ---- separators, operators, and characters that are none

pub scanned-operator : (xs : List ℕ) (o : Operator) (n : ℕ) → IsOther xs → n ≡ length (operator_text o) → IsLongestOperator xs o → IsScanned xs (Token (kind.Op o)) n
scanned-operator xs o n at size found =
    let both = and_parts _ _ found.starts in
    let fits = leb-true (length (operator_text o)) (length xs) both.0 in
    let front : take (length (operator_text o)) xs ≡ operator_text o = (bytes_eq-Decides (take (length (operator_text o)) xs) (operator_text o)).0 both.1 in
    let whole : xs ≡ operator_text o ++ drop n xs =
    sym (take-append-drop n xs) ∙ ap (λ t. t ++ drop n xs) (ap (λ m. take m xs) size ∙ front) in
    scanned xs (Token (kind.Op o)) n (operator_text o) (omega arith) (ap (λ m. take m xs) size ∙ front) refl
    (longest-other xs (operator_text o) (drop n xs) at whole (some-operator_text o) found.longest)

pub scanned-bad : (xs : List ℕ) → IsOther xs → ((o : Operator) → starts_with xs (operator_text o) ≡ false) → IsScanned xs (Malformed flaw.Character) 1
scanned-bad [] at none = absurd (omega (arith, at.some))
scanned-bad (c ∷ cs) at none =
    scanned (c ∷ cs) (Malformed flaw.Character) 1 (c ∷ []) (omega arith) refl
    (record {
      character = c;
      alone = refl;
      not_white = at.not_white;
      not_digit = at.not_digit;
      not_start = at.not_start;
      not_quote = at.not_quote;
      not_operator = no_operator;
    })
    (longest-other (c ∷ cs) (c ∷ []) cs at refl (omega arith) (λ o starts. let not = none o in absurd (cc))) where
      no_operator : (o : Operator) → operator_text o ≢ c ∷ []
      no_operator o is =
          let starts = starts_with-prefix (c ∷ cs) (operator_text o) cs (ap (λ t. t ++ cs) (sym is)) in
          let not = none o in absurd (cc)
