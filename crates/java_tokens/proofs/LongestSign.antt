-- Nothing longer begins: comments, separators and operators.
use Rattle.std.proofs.Common.{◌≡◌, ◌≢◌, ◌⊎◌, inl, inr, ℕ, ◌+◌, ◌<◌, ◌≤◌, true, false, List, [], ◌∷◌, ◌++◌, length, take, get_or, sym, ap, ◌∙◌, subst, arith, append_assoc, length-append}
use Rattle.std.specs.List.{list_all}
use Rattle.std.proofs.lemmas.Bool.{and_parts, and_from, le-leb, cases_lt}
use Rattle.std.proofs.lemmas.Bool.Decides.{nat_tests}
use Rattle.std.proofs.lemmas.List.{nil_from_length}
use Rattle.std.proofs.lemmas.List.Folds.{list_all-append}
use Rattle.std.proofs.lemmas.Slice.Eq.{bytes_eq-Decides}
use Rattle.std.proofs.Math.ListN.{get_or-append}
use Rattle.std.proofs.Math.Seq.{get_or-append_seam, take-append_seam}
use Rattle.std.proofs.lemmas.List.{get_or-append-add}
use Rattle.java_tokens.specs.declared.token.TokenKind.{TokenKind}
use Rattle.java_tokens.specs.declared.token.TokenKind.TheVariants as kind
use Rattle.java_tokens.specs.declared.token.Operator.{Operator}
use Rattle.java_tokens.specs.declared.lexeme.Lexeme.{Lexeme}
use Rattle.java_tokens.specs.declared.lexeme.Lexeme.TheVariants.{White, Comment, Token, Malformed}
use Rattle.java_tokens.specs.declared.lexeme.Flaw.{Flaw}
use Rattle.java_tokens.specs.declared.lexeme.Flaw.TheVariants as flaw
use Rattle.java_tokens.specs.Characters.{is_in_line, first_passes}
use Rattle.java_tokens.specs.Spelling.{IsSpelled, operator_text}
use Rattle.java_tokens.specs.Lexemes.{IsLineComment, IsOpenComment, IsBlockComment, HasFlaw, IsLexeme, IsLongest}
use Rattle.java_tokens.specs.Reading.{starts_with, begins_pair, IsOther}
use Rattle.java_tokens.proofs.Classes.{sign, class_of, class-slash, class-other}
use Rattle.java_tokens.proofs.Begins.{class_of_kind, class_of_flaw, class_of_lexeme, first_of, begins}
use Rattle.java_tokens.proofs.Runs.{no_run}
use Rattle.java_tokens.proofs.Spellings.{line-operator_text, block-operator_text}
use Rattle.java_tokens.proofs.Longest.{front-fails}

-- what else a text can be
data IsSign (text : List ℕ) : Type 0 where
  line : IsLineComment text → IsSign text
  block : IsBlockComment text → IsSign text
  unclosed : IsOpenComment text → IsSign text
  operator : (o : Operator) → text ≡ operator_text o → IsSign text
  alone : length text ≡ 1 → IsSign text

sign-kind : (k : TokenKind) (text : List ℕ) → class_of_kind k ≡ sign → IsSpelled k text → IsSign text
sign-kind (kind.Ident name) text is spelled = absurd (cc)
sign-kind (kind.Number n) text is spelled = absurd (cc)
sign-kind (kind.Text cs) text is spelled = absurd (cc)
sign-kind (kind.Word k) text is spelled = absurd (cc)
sign-kind (kind.Op o) text is spelled = operator o spelled
sign-kind kind.End text is spelled = absurd spelled

sign-flaw : (f : Flaw) (text : List ℕ) → class_of_flaw f ≡ sign → HasFlaw f text → IsSign text
sign-flaw flaw.Character text is flawed = alone (ap length flawed.alone)
sign-flaw flaw.Number text is flawed = absurd (cc)
sign-flaw flaw.Escape text is flawed = absurd (cc)
sign-flaw flaw.OpenString text is flawed = absurd (cc)
sign-flaw flaw.OpenComment text is flawed = unclosed flawed

sign-lexeme : (lexeme : Lexeme) (text : List ℕ) → class_of (first_of text) ≡ sign → IsLexeme lexeme text → IsSign text
sign-lexeme lexeme text class lex = by_lexeme lexeme (sym (begins lexeme text lex) ∙ class) lex where
  by_lexeme : (lexeme : Lexeme) → class_of_lexeme lexeme ≡ sign → IsLexeme lexeme text → IsSign text
  by_lexeme White is lex = absurd (cc)
  by_lexeme Comment is (inl comment) = line comment
  by_lexeme Comment is (inr comment) = block comment
  by_lexeme (Token k) is lex = sign-kind k text is lex
  by_lexeme (Malformed f) is lex = sign-flaw f text is lex

-- the second character of a block comment
second-open : (text : List ℕ) → IsOpenComment text → get_or text 1 0 ≡ 42
second-open text comment = ap (λ t. get_or t 1 0) comment.is

second-block : (text : List ℕ) → IsBlockComment text → get_or text 1 0 ≡ 42
second-block text comment = ap (λ t. get_or t 1 0) (comment.is ∙ ap (λ f. f ++ 42 ∷ 47 ∷ []) comment.opened.is)

-- ---- a comment to the end of its line

pub longest-line : (body rest : List ℕ) → first_passes is_in_line rest ≡ false → IsLongest (47 ∷ 47 ∷ body) rest
longest-line body rest over lexeme more behind split lex = by_sign (sign-lexeme lexeme (47 ∷ 47 ∷ (body ++ more)) class-slash lex) where
  by_sign : IsSign (47 ∷ 47 ∷ (body ++ more)) → more ≡ []
  by_sign (line comment) =
      let same : body ++ more ≡ comment.body = cc (comment.is) in
      let in_line = sym (list_all-append is_in_line body more) ∙ ap (list_all is_in_line) same ∙ comment.in_line in
      nil_from_length more (no_run is_in_line more (and_parts (list_all is_in_line body) _ in_line).1 (front-fails is_in_line rest more behind split over))
  by_sign (block comment) = let second = second-block _ comment in absurd (omega arith)
  by_sign (unclosed comment) = let second = second-open _ comment in absurd (omega arith)
  by_sign (operator o is) = let pair = ap (begins_pair 47 47) is ∙ line-operator_text o in absurd (cc)
  by_sign (alone one) = absurd (omega arith)

-- ---- a comment up to `*/`

-- where the first `*/` stands
first_end : (body body' more : List ℕ) → ((i : ℕ) → get_or body' i 0 ≡ 42 → get_or body' (i + 1) 0 ≢ 47) → body ++ 42 ∷ 47 ∷ more ≡ body' ++ 42 ∷ 47 ∷ [] → length more ≡ 0
first_end body body' more no_end same =
    elim (cases_lt (length body) (length body')) [
      | inl below ↦ absurd (by_next below (cases_lt (length body + 1) (length body')))
      | inr above ↦ omega (arith, lengths)
    ] where
      lengths : length body + (2 + length more) ≡ length body' + 2
      lengths = omega (arith, ap length same, length-append body (42 ∷ 47 ∷ more), length-append body' (42 ∷ 47 ∷ []))

      star : length body < length body' → get_or body' (length body) 0 ≡ 42
      star below =
          sym (get_or-append body' (42 ∷ 47 ∷ []) 0 (length body) below) ∙ ap (λ xs. get_or xs (length body) 0) (sym same)
          ∙ get_or-append_seam body 42 (47 ∷ more) 0

      slash : get_or (body' ++ 42 ∷ 47 ∷ []) (length body + 1) 0 ≡ 47
      slash = ap (λ xs. get_or xs (length body + 1) 0) (sym same) ∙ get_or-append-add body (42 ∷ 47 ∷ more) 1 0

      by_next : length body < length body' → (length body + 1 < length body') ⊎ (length body' ≤ length body + 1) → ⊥
      by_next below (inl next) = no_end (length body) (star below) (sym (get_or-append body' (42 ∷ 47 ∷ []) 0 (length body + 1) next) ∙ slash)
      by_next below (inr end) =
          let place : length body + 1 ≡ length body' = omega arith in
          let seam = get_or-append_seam body' 42 (47 ∷ []) 0 in
          let here = sym (ap (λ i. get_or (body' ++ 42 ∷ 47 ∷ []) i 0) place) ∙ slash in
          omega (arith, seam, here)

-- none stands after `*/`
open_end : (body more : List ℕ) → ((i : ℕ) → get_or (body ++ 42 ∷ 47 ∷ more) i 0 ≡ 42 → get_or (body ++ 42 ∷ 47 ∷ more) (i + 1) 0 ≢ 47) → ⊥
open_end body more no_end = no_end (length body) (get_or-append_seam body 42 (47 ∷ more) 0) (get_or-append-add body (42 ∷ 47 ∷ more) 1 0)

pub longest-block : (body rest : List ℕ) → IsLongest (47 ∷ 42 ∷ (body ++ 42 ∷ 47 ∷ [])) rest
longest-block body rest lexeme more behind split lex =
    by_sign (sign-lexeme lexeme (47 ∷ 42 ∷ (body ++ 42 ∷ 47 ∷ more)) class-slash (subst (λ b. IsLexeme lexeme (47 ∷ 42 ∷ b)) (append_assoc body (42 ∷ 47 ∷ []) more) lex)) where
      by_sign : IsSign (47 ∷ 42 ∷ (body ++ 42 ∷ 47 ∷ more)) → more ≡ []
      by_sign (line comment) = let second = ap (λ t. get_or t 1 0) comment.is in absurd (omega arith)
      by_sign (block comment) =
          let whole : 47 ∷ 42 ∷ (body ++ 42 ∷ 47 ∷ more) ≡ 47 ∷ 42 ∷ (comment.opened.body ++ 42 ∷ 47 ∷ []) = comment.is ∙ ap (λ f. f ++ 42 ∷ 47 ∷ []) comment.opened.is in
          let same : body ++ 42 ∷ 47 ∷ more ≡ comment.opened.body ++ 42 ∷ 47 ∷ [] = cc in
          nil_from_length more (first_end body comment.opened.body more comment.opened.no_end same)
      by_sign (unclosed comment) =
          let same : body ++ 42 ∷ 47 ∷ more ≡ comment.body = cc (comment.is) in
          absurd (open_end body more (subst (λ b. (i : ℕ) → get_or b i 0 ≡ 42 → get_or b (i + 1) 0 ≢ 47) (sym same) comment.no_end))
      by_sign (operator o is) = let pair = ap (begins_pair 47 42) is ∙ block-operator_text o in absurd (cc)
      by_sign (alone one) = absurd (omega arith)

-- ---- separators, operators, and characters that are none

pub starts_with-prefix : (xs text rest : List ℕ) → xs ≡ text ++ rest → starts_with xs text ≡ true
starts_with-prefix xs text rest is =
    let fits : length text ≤ length xs = omega (arith, ap length is, length-append text rest) in
    let front : take (length text) xs ≡ text = ap (take (length text)) is ∙ take-append_seam text rest in
    and_from _ _ (le-leb (length text) (length xs) fits) ((bytes_eq-Decides (take (length text) xs) text).1 front)

class-of-other : (xs : List ℕ) → IsOther xs → class_of (first_of xs) ≡ sign
class-of-other [] at = absurd (omega (arith, at.some))
class-of-other (c ∷ cs) at = class-other c at.not_white at.not_digit at.not_start at.not_quote

first-front : (xs text rest : List ℕ) → xs ≡ text ++ rest → 0 < length text → first_of text ≡ first_of xs
first-front xs [] rest is some = absurd (omega arith)
first-front xs (c ∷ cs) rest is some = sym (ap first_of is)

pair-front : (a b : ℕ) (text rest : List ℕ) → begins_pair a b text ≡ true → begins_pair a b (text ++ rest) ≡ true
pair-front a b [] rest begins = absurd (cc)
pair-front a b (c ∷ []) rest begins = absurd (grind (arith, nat_tests))
pair-front a b (c ∷ d ∷ cs) rest begins = begins

pub longest-other : (xs text rest : List ℕ) → IsOther xs → xs ≡ text ++ rest → 0 < length text → ((o : Operator) → starts_with xs (operator_text o) ≡ true → length (operator_text o) ≤ length text) → IsLongest text rest
longest-other xs text rest at is some most lexeme more behind split lex =
    by_sign (sign-lexeme lexeme whole (ap class_of (first-front xs whole behind parts (omega (arith, length-append text more))) ∙ class-of-other xs at) lex) where
      whole : List ℕ
      whole = text ++ more

      parts : xs ≡ (text ++ more) ++ behind
      parts = is ∙ ap (λ r. text ++ r) split ∙ sym (append_assoc text more behind)

      none_more : length (text ++ more) ≤ length text → more ≡ []
      none_more short = nil_from_length more (omega (arith, length-append text more))

      pair : (a b : ℕ) → begins_pair a b (text ++ more) ≡ true → begins_pair a b xs ≡ true
      pair a b begins = ap (begins_pair a b) parts ∙ pair-front a b (text ++ more) behind begins

      by_sign : IsSign (text ++ more) → more ≡ []
      by_sign (line comment) = let slashes = pair 47 47 (ap (begins_pair 47 47) comment.is) in let not = at.not_line in absurd (cc)
      by_sign (block comment) =
          let stars = pair 47 42 (ap (begins_pair 47 42) (comment.is ∙ ap (λ f. f ++ 42 ∷ 47 ∷ []) comment.opened.is)) in
          let not = at.not_block in absurd (cc)
      by_sign (unclosed comment) = let stars = pair 47 42 (ap (begins_pair 47 42) comment.is) in let not = at.not_block in absurd (cc)
      by_sign (operator o same) =
          none_more (omega (arith, ap length same, most o (starts_with-prefix xs (operator_text o) behind (parts ∙ ap (λ t. t ++ behind) same))))
      by_sign (alone one) = none_more (omega arith)
