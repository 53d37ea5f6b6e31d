-- Nothing longer begins: white space, what is made of parts of identifiers, and strings.
use Rattle.std.proofs.Common.{◌≡◌, ◌⊎◌, inl, inr, ℕ, Bool, true, false, ◌==◌, List, [], ◌∷◌, ◌++◌, None, length, get_or, drop, sym, refl, ap, ◌∙◌, subst, arith, append_assoc, length-append}
use Rattle.std.specs.List.{list_all}
use Rattle.std.proofs.lemmas.Bool.{and_parts, cond-false}
use Rattle.std.proofs.lemmas.Bool.Decides.{nat_tests}
use Rattle.std.proofs.lemmas.List.{nil_from_length, append-nil}
use Rattle.std.proofs.lemmas.List.Folds.{list_all-append}
use Rattle.java_tokens.specs.declared.token.TokenKind.{TokenKind}
use Rattle.java_tokens.specs.declared.token.TokenKind.TheVariants as kind
use Rattle.java_tokens.specs.declared.lexeme.Lexeme.{Lexeme}
use Rattle.java_tokens.specs.declared.lexeme.Lexeme.TheVariants.{White, Comment, Token, Malformed}
use Rattle.java_tokens.specs.declared.lexeme.Flaw.{Flaw}
use Rattle.java_tokens.specs.declared.lexeme.Flaw.TheVariants as flaw
use Rattle.java_tokens.specs.Characters.{is_white, is_digit, is_line_end, is_plain, is_identifier_part, escaped, first_passes}
use Rattle.java_tokens.specs.Spelling.{IsSpelled, SpellsCharacters}
use Rattle.java_tokens.specs.Lexemes.{IsOpenString, HasFlaw, IsLexeme, IsLongest}
use Rattle.java_tokens.proofs.Classes.{Class, white, digit, start, quote, sign, none, class_of, class-white, class-quote, part-digit}
use Rattle.java_tokens.proofs.Begins.{class_of_kind, class_of_flaw, class_of_lexeme, begins}
use Rattle.java_tokens.proofs.Runs.{list_all-weaker, no_run}
use Rattle.java_tokens.proofs.Spellings.{parts-keyword_text}
use Rattle.java_tokens.proofs.Strings.{strip, strip-spelled, strip-ending, strip-bad, Ending, over, closed, backslash, bad}

-- at the end of the text
pub longest-nil : (text : List ℕ) → IsLongest text []
longest-nil text lexeme more behind is lex = nil_from_length more (omega (arith, ap length is, length-append more behind))

-- ---- white space

white-kind : (k : TokenKind) → class_of_kind k ≡ white → ⊥
white-kind (kind.Ident name) is = absurd (cc)
white-kind (kind.Number n) is = absurd (cc)
white-kind (kind.Text cs) is = absurd (cc)
white-kind (kind.Word k) is = absurd (cc)
white-kind (kind.Op o) is = absurd (cc)
white-kind kind.End is = absurd (cc)

white-flaw : (f : Flaw) → class_of_flaw f ≡ white → ⊥
white-flaw flaw.Character is = absurd (cc)
white-flaw flaw.Number is = absurd (cc)
white-flaw flaw.Escape is = absurd (cc)
white-flaw flaw.OpenString is = absurd (cc)
white-flaw flaw.OpenComment is = absurd (cc)

white-one : (lexeme : Lexeme) (text : List ℕ) → class_of_lexeme lexeme ≡ white → IsLexeme lexeme text → length text ≡ 1
white-one White text is lex = ap length lex.alone
white-one Comment text is lex = absurd (cc)
white-one (Token k) text is lex = absurd (white-kind k is)
white-one (Malformed f) text is lex = absurd (white-flaw f is)

pub longest-white : (c : ℕ) (rest : List ℕ) → is_white c ≡ true → IsLongest (c ∷ []) rest
longest-white c rest is lexeme more behind split lex =
    let one = white-one lexeme (c ∷ more) (sym (begins lexeme (c ∷ more) lex) ∙ class-white c is) lex in
    nil_from_length more (omega arith)

-- ---- parts of identifiers

-- a number or a word
abbrev pub is_word_class : Class → Bool
is_word_class white = false
is_word_class digit = true
is_word_class start = true
is_word_class quote = false
is_word_class sign = false
is_word_class none = false

parts-kind : (k : TokenKind) (text : List ℕ) → is_word_class (class_of_kind k) ≡ true → IsSpelled k text → list_all is_identifier_part text ≡ true
parts-kind (kind.Ident name) text is spelled = spelled.1.parts
parts-kind (kind.Number n) text is spelled = list_all-weaker is_digit is_identifier_part part-digit text spelled.1.digits
parts-kind (kind.Text cs) text is spelled = absurd (cc)
parts-kind (kind.Word k) text is spelled = ap (list_all is_identifier_part) spelled ∙ parts-keyword_text k
parts-kind (kind.Op o) text is spelled = absurd (cc)
parts-kind kind.End text is spelled = absurd spelled

parts-flaw : (f : Flaw) (text : List ℕ) → is_word_class (class_of_flaw f) ≡ true → HasFlaw f text → list_all is_identifier_part text ≡ true
parts-flaw flaw.Character text is flawed = absurd (cc)
parts-flaw flaw.Number text is flawed = flawed.parts
parts-flaw flaw.Escape text is flawed = absurd (cc)
parts-flaw flaw.OpenString text is flawed = absurd (cc)
parts-flaw flaw.OpenComment text is flawed = absurd (cc)

parts-lexeme : (lexeme : Lexeme) (text : List ℕ) → is_word_class (class_of_lexeme lexeme) ≡ true → IsLexeme lexeme text → list_all is_identifier_part text ≡ true
parts-lexeme White text is lex = absurd (cc)
parts-lexeme Comment text is lex = absurd (cc)
parts-lexeme (Token k) text is lex = parts-kind k text is lex
parts-lexeme (Malformed f) text is lex = parts-flaw f text is lex

-- a front of what doesn't begin with what passes doesn't either
pub front-fails : (p : ℕ → Bool) (rest more behind : List ℕ) → rest ≡ more ++ behind → first_passes p rest ≡ false → first_passes p more ≡ false
front-fails p rest [] behind split fails = refl
front-fails p rest (m ∷ ms) behind split fails = sym (ap (first_passes p) split) ∙ fails

pub longest-word : (c : ℕ) (cs rest : List ℕ) → is_word_class (class_of c) ≡ true → first_passes is_identifier_part rest ≡ false → IsLongest (c ∷ cs) rest
longest-word c cs rest word fails lexeme more behind split lex =
    let class = ap is_word_class (begins lexeme ((c ∷ cs) ++ more) lex) in
    let parts = parts-lexeme lexeme ((c ∷ cs) ++ more) (sym class ∙ word) lex in
    let both = and_parts (list_all is_identifier_part (c ∷ cs)) (list_all is_identifier_part more) (sym (list_all-append is_identifier_part (c ∷ cs) more) ∙ parts) in
    nil_from_length more (no_run is_identifier_part more both.1 (front-fails is_identifier_part rest more behind split fails))

-- ---- strings

-- what a string, or the front of one, is made of
record IsQuoted (text : List ℕ) : Type 0 where
  characters : List ℕ
  body : List ℕ
  last : List ℕ
  is : text ≡ 34 ∷ (body ++ last)
  spelled : SpellsCharacters characters body
  ending : Ending last

quoted-open : (text : List ℕ) → IsOpenString text → IsQuoted text
quoted-open text lex = by_end lex.is where
  by_end : (text ≡ 34 ∷ lex.body) ⊎ (text ≡ 34 ∷ (lex.body ++ 92 ∷ [])) → IsQuoted text
  by_end (inl is) = record {
    characters = lex.characters;
    body = lex.body;
    last = [];
    is = is ∙ ap (λ b. 34 ∷ b) (sym (append-nil lex.body));
    spelled = lex.spelled;
    ending = over refl;
  }
  by_end (inr is) = record { characters = lex.characters; body = lex.body; last = 92 ∷ []; is = is; spelled = lex.spelled; ending = backslash refl }

quoted-kind : (k : TokenKind) (text : List ℕ) → class_of_kind k ≡ quote → IsSpelled k text → IsQuoted text
quoted-kind (kind.Ident name) text is spelled = absurd (cc)
quoted-kind (kind.Number n) text is spelled = absurd (cc)
quoted-kind (kind.Text cs) text is spelled =
    record { characters = cs; body = spelled.0; last = 34 ∷ []; is = spelled.1; spelled = spelled.2; ending = closed refl }
quoted-kind (kind.Word k) text is spelled = absurd (cc)
quoted-kind (kind.Op o) text is spelled = absurd (cc)
quoted-kind kind.End text is spelled = absurd spelled

quoted-flaw : (f : Flaw) (text : List ℕ) → class_of_flaw f ≡ quote → HasFlaw f text → IsQuoted text
quoted-flaw flaw.Character text is flawed = absurd (cc)
quoted-flaw flaw.Number text is flawed = absurd (cc)
quoted-flaw flaw.Escape text is flawed = record {
  characters = flawed.characters;
  body = flawed.body;
  last = 92 ∷ flawed.letter ∷ [];
  is = flawed.is;
  spelled = flawed.spelled;
  ending = bad flawed.letter refl flawed.no_escape;
}
quoted-flaw flaw.OpenString text is flawed = quoted-open text flawed
quoted-flaw flaw.OpenComment text is flawed = absurd (cc)

quoted-lexeme : (lexeme : Lexeme) (text : List ℕ) → class_of_lexeme lexeme ≡ quote → IsLexeme lexeme text → IsQuoted text
quoted-lexeme White text is lex = absurd (cc)
quoted-lexeme Comment text is lex = absurd (cc)
quoted-lexeme (Token k) text is lex = quoted-kind k text is lex
quoted-lexeme (Malformed f) text is lex = quoted-flaw f text is lex

-- after characters that are spelled stands an ending, where a string or the front of one does
ending-behind : (lexeme : Lexeme) (characters body us : List ℕ) → SpellsCharacters characters body → IsLexeme lexeme (34 ∷ (body ++ us)) → Ending (strip us false)
ending-behind lexeme characters body us spelled lex =
    let text = 34 ∷ (body ++ us) in
    let quoted = quoted-lexeme lexeme text (sym (begins lexeme text lex) ∙ class-quote) lex in
    let tails : body ++ us ≡ quoted.body ++ quoted.last = ap (drop 1) quoted.is in
    let same : strip us false ≡ quoted.last =
    sym (strip-spelled characters body us spelled) ∙ ap (λ b. strip b false) tails
    ∙ strip-spelled quoted.characters quoted.body quoted.last quoted.spelled ∙ strip-ending quoted.last quoted.ending in
    subst Ending (sym same) quoted.ending

-- nothing stands after an ending
nothing_more-quote : (more : List ℕ) → Ending (34 ∷ more) → more ≡ []
nothing_more-quote more (over is) = absurd (cc)
nothing_more-quote more (closed is) = cc
nothing_more-quote more (backslash is) = let same = ap (λ xs. get_or xs 0 0) is in absurd (omega arith)
nothing_more-quote more (bad letter is no_escape) = let same = ap (λ xs. get_or xs 0 0) is in absurd (omega arith)

nothing_more-bad : (letter : ℕ) (more : List ℕ) → Ending (92 ∷ letter ∷ more) → more ≡ []
nothing_more-bad letter more (over is) = absurd (cc)
nothing_more-bad letter more (closed is) = let same = ap (λ xs. get_or xs 0 0) is in absurd (omega arith)
nothing_more-bad letter more (backslash is) = let same = ap length is in absurd (omega arith)
nothing_more-bad letter more (bad other is no_escape) = let same = ap length is in nil_from_length more (omega arith)

line_end-ending : (c : ℕ) (more : List ℕ) → is_line_end c ≡ true → Ending (c ∷ more) → ⊥
line_end-ending c more line_end (over is) = absurd (cc)
line_end-ending c more line_end (closed is) = let same = ap (λ xs. get_or xs 0 0) is in grind (arith, nat_tests)
line_end-ending c more line_end (backslash is) = let same = ap (λ xs. get_or xs 0 0) is in grind (arith, nat_tests)
line_end-ending c more line_end (bad letter is no_escape) = let same = ap (λ xs. get_or xs 0 0) is in grind (arith, nat_tests)

strip-line_end : (c : ℕ) (more : List ℕ) → is_line_end c ≡ true → strip (c ∷ more) false ≡ c ∷ more
strip-line_end c more line_end =
    let no_backslash : (c == 92) ≡ false = grind (arith, nat_tests) in
    let not_plain : is_plain c ≡ false = grind (arith, nat_tests) in
    cond-false _ _ _ no_backslash ∙ cond-false _ _ _ not_plain

module _ (characters body : List ℕ) (spelled : SpellsCharacters characters body) where
  -- a text of a string, after its first characters
  regroup : (last more : List ℕ) → (34 ∷ (body ++ last)) ++ more ≡ 34 ∷ (body ++ (last ++ more))
  regroup last more = ap (λ b. 34 ∷ b) (append_assoc body last more)

  pub longest-closed : (rest : List ℕ) → IsLongest (34 ∷ (body ++ 34 ∷ [])) rest
  longest-closed rest lexeme more behind split lex =
      nothing_more-quote more (ending-behind lexeme characters body (34 ∷ more) spelled (subst (IsLexeme lexeme) (regroup (34 ∷ []) more) lex))

  pub longest-bad : (letter : ℕ) (rest : List ℕ) → escaped letter ≡ None → IsLongest (34 ∷ (body ++ 92 ∷ letter ∷ [])) rest
  longest-bad letter rest no_escape lexeme more behind split lex =
      nothing_more-bad letter more
      (subst Ending (strip-bad letter more no_escape) (ending-behind lexeme characters body (92 ∷ letter ∷ more) spelled (subst (IsLexeme lexeme) (regroup (92 ∷ letter ∷ []) more) lex)))

  pub longest-line_end : (rest : List ℕ) → first_passes is_line_end rest ≡ true → IsLongest (34 ∷ body) rest
  longest-line_end rest line_end lexeme [] behind split lex = refl
  longest-line_end rest line_end lexeme (c ∷ more) behind split lex =
      let ends : is_line_end c ≡ true = sym (ap (first_passes is_line_end) split) ∙ line_end in
      absurd (line_end-ending c more ends (subst Ending (strip-line_end c more ends) (ending-behind lexeme characters body (c ∷ more) spelled lex)))
