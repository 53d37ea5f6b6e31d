-- A text is one of one thing at most.
use Rattle.std.proofs.Common.{◌≡◌, ◌⊎◌, inl, inr, ℕ, Bool, true, false, cond, ◌==◌, List, [], ◌∷◌, ◌++◌, Option, Some, None, drop, refl, sym, ap, ◌∙◌}
use Rattle.std.proofs.lemmas.Bool.{cond-true, cond-false}
use Rattle.std.proofs.lemmas.List.{append-nil}
use Rattle.java_tokens.specs.declared.token.TokenKind.{TokenKind}
use Rattle.java_tokens.specs.declared.token.TokenKind.TheVariants as kind
use Rattle.java_tokens.specs.declared.token.Keyword.{Keyword}
use Rattle.java_tokens.specs.declared.token.Operator.{Operator}
use Rattle.java_tokens.specs.declared.lexeme.Lexeme.{Lexeme}
use Rattle.java_tokens.specs.declared.lexeme.Lexeme.TheVariants.{White, Comment, Token, Malformed}
use Rattle.java_tokens.specs.declared.lexeme.Flaw.{Flaw}
use Rattle.java_tokens.specs.declared.lexeme.Flaw.TheVariants as flaw
use Rattle.java_tokens.specs.Spelling.{IsSpelled, SpellsCharacters, keyword_text, operator_text, number_of}
use Rattle.java_tokens.specs.Lexemes.{IsOpenComment, IsOpenString, HasFlaw, IsLexeme}
use Rattle.java_tokens.specs.Reading.{begins_pair}
use Rattle.java_tokens.proofs.Classes.{Class, white, digit, start, quote, sign, none}
use Rattle.java_tokens.proofs.Begins.{class_of_kind, class_of_flaw, class_of_lexeme, begins}
use Rattle.java_tokens.proofs.Spellings.{keyword_of, operator_of, keyword_of-text, keyword_of-none, operator_of-text, operator_of-none, line-operator_text, block-operator_text}
use Rattle.java_tokens.proofs.Strings.{strip, meant, strip-spelled, meant-spelled, strip-ending, Ending, over, closed, backslash, bad}
use Rattle.java_tokens.proofs.Comments.{has_end, has_end-none, has_end-here}

-- what a text can be, by its class

abbrev word_of : List ℕ → Option Keyword → Lexeme
word_of text None = Token (kind.Ident text)
word_of text (Some k) = Token (kind.Word k)

abbrev operator_or_bad : Option Operator → Lexeme
operator_or_bad None = Malformed flaw.Character
operator_or_bad (Some o) = Token (kind.Op o)

-- by what stands after the characters, and which these are
abbrev string_of : List ℕ → List ℕ → Lexeme
string_of [] characters = Malformed flaw.OpenString
string_of (c ∷ []) characters = cond (c == 34) (Token (kind.Text characters)) (Malformed flaw.OpenString)
string_of (c ∷ d ∷ cs) characters = Malformed flaw.Escape

abbrev string_with : List ℕ → Lexeme
string_with body = string_of (strip body false) (meant body false)

abbrev behind_first : List ℕ → List ℕ
behind_first text = drop 1 text

abbrev other_of : List ℕ → Lexeme
other_of text =
    cond (begins_pair 47 47 text) Comment
    (cond (begins_pair 47 42 text) (cond (has_end (drop 2 text)) Comment (Malformed flaw.OpenComment)) (operator_or_bad (operator_of text)))

-- the text of a string
string-is : (cs body u : List ℕ) → SpellsCharacters cs body → Ending u → string_with (body ++ u) ≡ string_of u (cs ++ meant u false)
string-is cs body u spelled ending =
    let left : strip (body ++ u) false ≡ u = strip-spelled cs body u spelled ∙ strip-ending u ending in
    let read : meant (body ++ u) false ≡ cs ++ meant u false = meant-spelled cs body u spelled in
    λ i. string_of (left i) (read i)

text-is : (characters text : List ℕ) → IsSpelled (kind.Text characters) text → string_with (behind_first text) ≡ Token (kind.Text characters)
text-is characters text spelled =
    ap (λ t. string_with (behind_first t)) spelled.1
    ∙ string-is characters spelled.0 (34 ∷ []) spelled.2 (closed refl)
    ∙ ap (λ cs. Token (kind.Text cs)) (append-nil characters)

escape-is : (text : List ℕ) → HasFlaw flaw.Escape text → string_with (behind_first text) ≡ Malformed flaw.Escape
escape-is text flawed =
    ap (λ t. string_with (behind_first t)) flawed.is
    ∙ string-is flawed.characters flawed.body (92 ∷ flawed.letter ∷ []) flawed.spelled (bad flawed.letter refl flawed.no_escape)

open_string-is : (text : List ℕ) → IsOpenString text → string_with (behind_first text) ≡ Malformed flaw.OpenString
open_string-is text open_text = by_end open_text.is where
  by_end : (text ≡ 34 ∷ open_text.body) ⊎ (text ≡ 34 ∷ (open_text.body ++ 92 ∷ [])) → string_with (behind_first text) ≡ Malformed flaw.OpenString
  by_end (inl is) =
      ap (λ t. string_with (behind_first t)) is ∙ ap string_with (sym (append-nil open_text.body))
      ∙ string-is open_text.characters open_text.body [] open_text.spelled (over refl)
  by_end (inr is) =
      ap (λ t. string_with (behind_first t)) is
      ∙ string-is open_text.characters open_text.body (92 ∷ []) open_text.spelled (backslash refl)

-- the text of a comment, an operator or a bad character
open_comment-is : (text : List ℕ) → IsOpenComment text → other_of text ≡ Malformed flaw.OpenComment
open_comment-is text comment =
    ap other_of comment.is ∙ cond-false _ _ _ (has_end-none comment.body comment.no_end)

block-is : (text front : List ℕ) → text ≡ front ++ 42 ∷ 47 ∷ [] → IsOpenComment front → other_of text ≡ Comment
block-is text front is comment =
    ap other_of (is ∙ ap (λ f. f ++ 42 ∷ 47 ∷ []) comment.is) ∙ cond-true _ _ _ (has_end-here comment.body [])

operator-is : (o : Operator) → other_of (operator_text o) ≡ Token (kind.Op o)
operator-is o =
    cond-false _ _ _ (line-operator_text o) ∙ cond-false _ _ _ (block-operator_text o) ∙ ap operator_or_bad (operator_of-text o)

pair-alone : (a b c : ℕ) → begins_pair a b (c ∷ []) ≡ false
pair-alone a b c = by_test (c == a) refl where
  by_test : (t : Bool) → (c == a) ≡ t → begins_pair a b (c ∷ []) ≡ false
  by_test true is = rw is refl
  by_test false is = rw is refl

character-is : (text : List ℕ) → HasFlaw flaw.Character text → other_of text ≡ Malformed flaw.Character
character-is text flawed =
    cond-false _ _ _ (ap (begins_pair 47 47) flawed.alone ∙ pair-alone 47 47 flawed.character)
    ∙ cond-false _ _ _ (ap (begins_pair 47 42) flawed.alone ∙ pair-alone 47 42 flawed.character)
    ∙ ap operator_or_bad (operator_of-none text flawed.not_operator)

-- numbers are told apart by whether they are one
number-one : (kind : TokenKind) (flaw : Flaw) (text : List ℕ) → class_of_kind kind ≡ digit → class_of_flaw flaw ≡ digit → IsSpelled kind text → HasFlaw flaw text → ⊥
number-one (kind.Number n) flaw.Number text is is' spelled flawed = flawed.no_number spelled.1
number-one (kind.Number n) flaw.Character text is is' spelled flawed = absurd (cc)
number-one (kind.Number n) flaw.Escape text is is' spelled flawed = absurd (cc)
number-one (kind.Number n) flaw.OpenString text is is' spelled flawed = absurd (cc)
number-one (kind.Number n) flaw.OpenComment text is is' spelled flawed = absurd (cc)
number-one (kind.Ident name) flaw text is is' spelled flawed = absurd (cc)
number-one (kind.Text cs) flaw text is is' spelled flawed = absurd (cc)
number-one (kind.Word k) flaw text is is' spelled flawed = absurd (cc)
number-one (kind.Op o) flaw text is is' spelled flawed = absurd (cc)
number-one kind.End flaw text is is' spelled flawed = absurd (cc)

-- what a text is, where it is a number if it can be one
abbrev lexeme_by : Class → List ℕ → Lexeme → Lexeme
lexeme_by white text number = White
lexeme_by digit text number = number
lexeme_by start text number = word_of text (keyword_of text)
lexeme_by quote text number = string_with (behind_first text)
lexeme_by sign text number = other_of text
lexeme_by none text number = White

kind-is : (kind : TokenKind) (text : List ℕ) (number : Lexeme) → (class_of_kind kind ≡ digit → Token kind ≡ number) → IsSpelled kind text → Token kind ≡ lexeme_by (class_of_kind kind) text number
kind-is (kind.Ident name) text number is spelled =
    ap (λ n. Token (kind.Ident n)) (sym spelled.0) ∙ sym (ap (word_of text) (keyword_of-none text spelled.1.not_keyword))
kind-is (kind.Number n) text number is spelled = is refl
kind-is (kind.Text characters) text number is spelled = sym (text-is characters text spelled)
kind-is (kind.Word k) text number is spelled =
    sym (ap (λ t. word_of t (keyword_of t)) spelled ∙ ap (word_of (keyword_text k)) (keyword_of-text k))
kind-is (kind.Op o) text number is spelled = sym (ap other_of spelled ∙ operator-is o)
kind-is kind.End text number is spelled = absurd spelled

flaw-is : (flaw : Flaw) (text : List ℕ) (number : Lexeme) → (class_of_flaw flaw ≡ digit → Malformed flaw ≡ number) → HasFlaw flaw text → Malformed flaw ≡ lexeme_by (class_of_flaw flaw) text number
flaw-is flaw.Character text number is flawed = sym (character-is text flawed)
flaw-is flaw.Number text number is flawed = is refl
flaw-is flaw.Escape text number is flawed = sym (escape-is text flawed)
flaw-is flaw.OpenString text number is flawed = sym (open_string-is text flawed)
flaw-is flaw.OpenComment text number is flawed = sym (open_comment-is text flawed)

lexeme-is : (lexeme : Lexeme) (text : List ℕ) (number : Lexeme) → (class_of_lexeme lexeme ≡ digit → lexeme ≡ number) → IsLexeme lexeme text → lexeme ≡ lexeme_by (class_of_lexeme lexeme) text number
lexeme-is White text number is lex = refl
lexeme-is Comment text number is (inl line) = sym (ap other_of line.is)
lexeme-is Comment text number is (inr block) = sym (block-is text block.front block.is block.opened)
lexeme-is (Token kind) text number is lex = kind-is kind text number is lex
lexeme-is (Malformed flaw) text number is lex = flaw-is flaw text number is lex

-- two numbers of one text
number-value : (k j : TokenKind) (text : List ℕ) → class_of_kind k ≡ digit → class_of_kind j ≡ digit → IsSpelled k text → IsSpelled j text → Token k ≡ Token j
number-value k j text is is' spelled spelled' = value k is spelled ∙ sym (value j is' spelled') where
  value : (k : TokenKind) → class_of_kind k ≡ digit → IsSpelled k text → Token k ≡ Token (kind.Number (number_of text))
  value (kind.Number n) is spelled = ap (λ m. Token (kind.Number m)) spelled.0
  value (kind.Ident name) is spelled = absurd (cc)
  value (kind.Text cs) is spelled = absurd (cc)
  value (kind.Word k) is spelled = absurd (cc)
  value (kind.Op o) is spelled = absurd (cc)
  value kind.End is spelled = absurd (cc)

digit-flaw : (f : Flaw) → class_of_flaw f ≡ digit → f ≡ flaw.Number
digit-flaw flaw.Number is = refl
digit-flaw flaw.Character is = absurd (cc)
digit-flaw flaw.Escape is = absurd (cc)
digit-flaw flaw.OpenString is = absurd (cc)
digit-flaw flaw.OpenComment is = absurd (cc)

number-same : (lexeme other : Lexeme) (text : List ℕ) → class_of_lexeme lexeme ≡ digit → class_of_lexeme other ≡ digit → IsLexeme lexeme text → IsLexeme other text → lexeme ≡ other
number-same White other text is is' lex lex' = absurd (cc)
number-same Comment other text is is' lex lex' = absurd (cc)
number-same (Token kind) White text is is' lex lex' = absurd (cc)
number-same (Token kind) Comment text is is' lex lex' = absurd (cc)
number-same (Token kind) (Token other) text is is' lex lex' = number-value kind other text is is' lex lex'
number-same (Token kind) (Malformed flaw) text is is' lex lex' = absurd (number-one kind flaw text is is' lex lex')
number-same (Malformed flaw) White text is is' lex lex' = absurd (cc)
number-same (Malformed flaw) Comment text is is' lex lex' = absurd (cc)
number-same (Malformed flaw) (Token kind) text is is' lex lex' = absurd (number-one kind flaw text is' is lex' lex)
number-same (Malformed flaw) (Malformed other) text is is' lex lex' = ap Malformed (digit-flaw flaw is ∙ sym (digit-flaw other is'))

pub same_lexeme : (lexeme other : Lexeme) (text : List ℕ) → IsLexeme lexeme text → IsLexeme other text → lexeme ≡ other
same_lexeme lexeme other text lex lex' =
    let class : class_of_lexeme lexeme ≡ class_of_lexeme other = sym (begins lexeme text lex) ∙ begins other text lex' in
    let first : lexeme ≡ lexeme_by (class_of_lexeme lexeme) text lexeme = lexeme-is lexeme text lexeme (λ _. refl) lex in
    let second : other ≡ lexeme_by (class_of_lexeme other) text lexeme =
    lexeme-is other text lexeme (λ is. number-same other lexeme text is (class ∙ is) lex' lex) lex' in
    first ∙ ap (λ c. lexeme_by c text lexeme) class ∙ sym second
