-- The texts of keywords and operators: each has one text of its own, and which classes their characters are of.
use Rattle.std.proofs.Common.{◌≡◌, ◌≢◌, inl, inr, ℕ, ◌<◌, Bool, true, false, List, [], ◌∷◌, length, get_or, arith, Option, Some, None, refl, sym, ap, ◌∙◌}
use Rattle.std.specs.List.{list_all, find, position_or_len, slice_get}
use Rattle.std.specs.Str.{bytes_eq}
use Rattle.std.proofs.lemmas.Bool.{cond-true, cond-false, cases_Bool}
use Rattle.std.proofs.lemmas.List.Sums.{position_or_len_is}
use Rattle.std.proofs.lemmas.List.Folds.{find_at}
use Rattle.std.proofs.lemmas.Slice.Eq.{bytes_eq-Decides}
use Rattle.unicode_ident.proofs.Computing.{unicode_ident}
use Rattle.java_tokens.specs.declared.keyword.TheConstants.{KEYWORDS}
use Rattle.java_tokens.specs.declared.operator.TheConstants.{OPERATORS}
use Rattle.java_tokens.specs.declared.token.Keyword.{Keyword}
use Rattle.java_tokens.specs.declared.token.Keyword.TheVariants as keyword
use Rattle.java_tokens.specs.declared.token.Operator.{Operator}
use Rattle.java_tokens.specs.declared.token.Operator.TheVariants as operator
use Rattle.java_tokens.specs.Characters.{is_identifier_start, is_identifier_part, first_passes}
use Rattle.java_tokens.specs.Reading.{begins_pair}
use Rattle.java_tokens.proofs.Classes.{class_of, sign}
use Rattle.java_tokens.specs.Spelling.{keyword_text, operator_text}

-- the keyword that has this text, of the table
abbrev pub keyword_of : List ℕ → Option Keyword
keyword_of text = find (λ k. bytes_eq text (keyword_text k)) KEYWORDS

-- the separator or operator that has this text
abbrev pub operator_of : List ℕ → Option Operator
operator_of text = find (λ o. bytes_eq text (operator_text o)) OPERATORS

-- each keyword is in the table, and no two have one text
pub keyword_of-text : (k : Keyword) → keyword_of (keyword_text k) ≡ Some k
keyword_of-text keyword.Abstract = refl
keyword_of-text k = refl

pub starts-keyword_text : (k : Keyword) → first_passes is_identifier_start (keyword_text k) ≡ true
unfolding unicode_ident
starts-keyword_text keyword.Abstract = refl
starts-keyword_text k = refl

pub parts-keyword_text : (k : Keyword) → list_all is_identifier_part (keyword_text k) ≡ true
unfolding unicode_ident
parts-keyword_text keyword.Abstract = refl
parts-keyword_text k = refl

pub operator_of-text : (o : Operator) → operator_of (operator_text o) ≡ Some o
operator_of-text operator.LeftBrace = refl
operator_of-text o = refl

-- no separator or operator begins as a token of another kind does, or as a comment
pub class-operator_text : (o : Operator) → class_of (get_or (operator_text o) 0 0) ≡ sign
unfolding unicode_ident
class-operator_text operator.LeftBrace = refl
class-operator_text o = refl

pub some-operator_text : (o : Operator) → 0 < length (operator_text o)
some-operator_text operator.LeftBrace = omega arith
some-operator_text o = omega arith

pub line-operator_text : (o : Operator) → begins_pair 47 47 (operator_text o) ≡ false
line-operator_text operator.LeftBrace = refl
line-operator_text o = refl

pub block-operator_text : (o : Operator) → begins_pair 47 42 (operator_text o) ≡ false
block-operator_text operator.LeftBrace = refl
block-operator_text o = refl

-- what is found passes
find_passes : {X : Type 0} (p : X → Bool) (xs : List X) (x : X) → find p xs ≡ Some x → p x ≡ true
find_passes p [] x found = absurd (cc)
find_passes p (y ∷ xs) x found =
    elim (cases_Bool (p y)) [
      | inl passes ↦ let e : Some y ≡ Some x = sym (cond-true (p y) (Some y) (find p xs) passes) ∙ found in cc
      | inr fails ↦ find_passes p xs x (sym (cond-false (p y) (Some y) (find p xs) fails) ∙ found)
    ]

-- a text that isn't one of a keyword is found at none
pub keyword_of-none : (text : List ℕ) → ((k : Keyword) → text ≢ keyword_text k) → keyword_of text ≡ None
keyword_of-none text no_keyword = by_answer (keyword_of text) refl where
  by_answer : (o : Option Keyword) → keyword_of text ≡ o → keyword_of text ≡ None
  by_answer None is = is
  by_answer (Some k) is = absurd (no_keyword k ((bytes_eq-Decides text (keyword_text k)).0 (find_passes (λ k. bytes_eq text (keyword_text k)) KEYWORDS k is)))

-- a text that isn't one of a separator or operator is found at none
pub operator_of-none : (text : List ℕ) → ((o : Operator) → operator_text o ≢ text) → operator_of text ≡ None
operator_of-none text no_operator = by_answer (operator_of text) refl where
  by_answer : (answer : Option Operator) → operator_of text ≡ answer → operator_of text ≡ None
  by_answer None is = is
  by_answer (Some o) is = absurd (no_operator o (sym ((bytes_eq-Decides text (operator_text o)).0 (find_passes (λ o. bytes_eq text (operator_text o)) OPERATORS o is))))

-- a text that isn't that of any keyword of the table is none of a keyword
pub no_keyword : (text : List ℕ) → ((i : ℕ) → i < 53 → bytes_eq text (keyword_text (get_or KEYWORDS i keyword.Abstract)) ≡ false) → (k : Keyword) → text ≢ keyword_text k
no_keyword text differ k is =
    let passes : Keyword → Bool = λ k. bytes_eq text (keyword_text k) in
    let past : position_or_len passes KEYWORDS ≡ 53 = position_or_len_is passes KEYWORDS 53 keyword.Abstract (omega arith) differ (λ within. absurd (omega arith)) in
    let nothing : keyword_of text ≡ None = find_at passes KEYWORDS ∙ ap (slice_get KEYWORDS) past in
    let found : keyword_of text ≡ Some k = ap keyword_of is ∙ keyword_of-text k in
    cc
