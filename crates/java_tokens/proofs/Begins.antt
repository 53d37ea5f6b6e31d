-- What can stand at a place, by its first character, and that it takes one character at least.
use Rattle.std.proofs.Common.{◌≡◌, ◌⊎◌, inl, inr, ℕ, ◌<◌, Bool, true, List, [], ◌∷◌, ◌++◌, length, get_or, sym, ap, ◌∙◌, subst, arith, length-append}
use Rattle.java_tokens.specs.declared.token.TokenKind.{TokenKind}
use Rattle.java_tokens.specs.declared.token.TokenKind.TheVariants as kind
use Rattle.java_tokens.specs.declared.lexeme.Lexeme.{Lexeme}
use Rattle.java_tokens.specs.declared.lexeme.Lexeme.TheVariants.{White, Comment, Token, Malformed}
use Rattle.java_tokens.specs.declared.lexeme.Flaw.{Flaw}
use Rattle.java_tokens.specs.declared.lexeme.Flaw.TheVariants as flaw
use Rattle.java_tokens.specs.Characters.{is_digit, is_identifier_start, first_passes}
use Rattle.java_tokens.specs.Spelling.{IsSpelled, keyword_text, operator_text}
use Rattle.java_tokens.specs.Lexemes.{IsOpenComment, HasFlaw, IsLexeme}
use Rattle.java_tokens.proofs.Classes.{Class, white, digit, start, quote, sign, none, class_of, class-white, class-digit, class-start, class-quote, class-slash, class-other}
use Rattle.java_tokens.proofs.Spellings.{starts-keyword_text, class-operator_text, some-operator_text}

abbrev pub class_of_kind : TokenKind → Class
class_of_kind (kind.Ident name) = start
class_of_kind (kind.Number n) = digit
class_of_kind (kind.Text characters) = quote
class_of_kind (kind.Word k) = start
class_of_kind (kind.Op o) = sign
class_of_kind kind.End = none

abbrev pub class_of_flaw : Flaw → Class
class_of_flaw flaw.Character = sign
class_of_flaw flaw.Number = digit
class_of_flaw flaw.Escape = quote
class_of_flaw flaw.OpenString = quote
class_of_flaw flaw.OpenComment = sign

abbrev pub class_of_lexeme : Lexeme → Class
class_of_lexeme White = white
class_of_lexeme Comment = sign
class_of_lexeme (Token kind) = class_of_kind kind
class_of_lexeme (Malformed flaw) = class_of_flaw flaw

abbrev pub first_of : List ℕ → ℕ
first_of text = get_or text 0 0

first-passes : (p : ℕ → Bool) (text : List ℕ) → first_passes p text ≡ true → p (first_of text) ≡ true
first-passes p [] passes = absurd (cc)
first-passes p (c ∷ cs) passes = passes

-- a text that is another list has its first character
first-is : (text other : List ℕ) → text ≡ other → class_of (first_of text) ≡ class_of (first_of other)
first-is text other same = ap (λ t. class_of (first_of t)) same

begins-open_comment : (text : List ℕ) → IsOpenComment text → class_of (first_of text) ≡ sign
begins-open_comment text comment = first-is text (47 ∷ 42 ∷ comment.body) comment.is ∙ class-slash

begins-kind : (kind : TokenKind) (text : List ℕ) → IsSpelled kind text → class_of (first_of text) ≡ class_of_kind kind
begins-kind (kind.Ident name) text spelled = class-start (first_of text) (first-passes is_identifier_start text spelled.1.start)
begins-kind (kind.Number n) text spelled = class-digit (first_of text) (first-passes is_digit text spelled.1.start)
begins-kind (kind.Text characters) text spelled = first-is text (34 ∷ (spelled.0 ++ 34 ∷ [])) spelled.1 ∙ class-quote
begins-kind (kind.Word k) text spelled =
    first-is text (keyword_text k) spelled ∙ class-start (first_of (keyword_text k)) (first-passes is_identifier_start (keyword_text k) (starts-keyword_text k))
begins-kind (kind.Op o) text spelled = first-is text (operator_text o) spelled ∙ class-operator_text o
begins-kind kind.End text spelled = absurd spelled

begins-flaw : (flaw : Flaw) (text : List ℕ) → HasFlaw flaw text → class_of (first_of text) ≡ class_of_flaw flaw
begins-flaw flaw.Character text bad =
    first-is text (bad.character ∷ []) bad.alone ∙ class-other bad.character bad.not_white bad.not_digit bad.not_start bad.not_quote
begins-flaw flaw.Number text bad = class-digit (first_of text) (first-passes is_digit text bad.start)
begins-flaw flaw.Escape text bad = first-is text (34 ∷ (bad.body ++ 92 ∷ bad.letter ∷ [])) bad.is ∙ class-quote
begins-flaw flaw.OpenString text bad = by_end bad.is where
  by_end : (text ≡ 34 ∷ bad.body) ⊎ (text ≡ 34 ∷ (bad.body ++ 92 ∷ [])) → class_of (first_of text) ≡ quote
  by_end (inl is) = first-is text (34 ∷ bad.body) is ∙ class-quote
  by_end (inr is) = first-is text (34 ∷ (bad.body ++ 92 ∷ [])) is ∙ class-quote
begins-flaw flaw.OpenComment text bad = begins-open_comment text bad

pub begins : (lexeme : Lexeme) (text : List ℕ) → IsLexeme lexeme text → class_of (first_of text) ≡ class_of_lexeme lexeme
begins White text lex = first-is text (lex.character ∷ []) lex.alone ∙ class-white lex.character lex.white
begins Comment text (inl line) = first-is text (47 ∷ 47 ∷ line.body) line.is ∙ class-slash
begins Comment text (inr block) =
    first-is text (block.front ++ 42 ∷ 47 ∷ []) block.is
    ∙ first-is (block.front ++ 42 ∷ 47 ∷ []) (47 ∷ 42 ∷ (block.opened.body ++ 42 ∷ 47 ∷ [])) (ap (λ front. front ++ 42 ∷ 47 ∷ []) block.opened.is)
    ∙ class-slash
begins (Token kind) text lex = begins-kind kind text lex
begins (Malformed flaw) text lex = begins-flaw flaw text lex

-- there is a first character
some-first : (p : ℕ → Bool) (text : List ℕ) → first_passes p text ≡ true → 0 < length text
some-first p [] passes = absurd (cc)
some-first p (c ∷ cs) passes = omega arith

some-kind : (kind : TokenKind) (text : List ℕ) → IsSpelled kind text → 0 < length text
some-kind (kind.Ident name) text spelled = some-first is_identifier_start text spelled.1.start
some-kind (kind.Number n) text spelled = some-first is_digit text spelled.1.start
some-kind (kind.Text characters) text spelled = omega (arith, ap length spelled.1)
some-kind (kind.Word k) text spelled = subst (λ t. 0 < length t) (sym spelled) (some-first is_identifier_start (keyword_text k) (starts-keyword_text k))
some-kind (kind.Op o) text spelled = subst (λ t. 0 < length t) (sym spelled) (some-operator_text o)
some-kind kind.End text spelled = absurd spelled

some-flaw : (flaw : Flaw) (text : List ℕ) → HasFlaw flaw text → 0 < length text
some-flaw flaw.Character text bad = omega (arith, ap length bad.alone)
some-flaw flaw.Number text bad = some-first is_digit text bad.start
some-flaw flaw.Escape text bad = omega (arith, ap length bad.is)
some-flaw flaw.OpenString text bad = by_end bad.is where
  by_end : (text ≡ 34 ∷ bad.body) ⊎ (text ≡ 34 ∷ (bad.body ++ 92 ∷ [])) → 0 < length text
  by_end (inl is) = omega (arith, ap length is)
  by_end (inr is) = omega (arith, ap length is)
some-flaw flaw.OpenComment text bad = omega (arith, ap length bad.is)

pub some : (lexeme : Lexeme) (text : List ℕ) → IsLexeme lexeme text → 0 < length text
some White text lex = omega (arith, ap length lex.alone)
some Comment text (inl line) = omega (arith, ap length line.is)
some Comment text (inr block) = omega (arith, ap length block.is, length-append block.front (42 ∷ 47 ∷ []))
some (Token kind) text lex = some-kind kind text lex
some (Malformed flaw) text lex = some-flaw flaw text lex
