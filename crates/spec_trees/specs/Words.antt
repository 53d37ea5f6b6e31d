-- The words of contracts, which are no identifiers there.
use Rattle.std.specs.Prelude.{◌≡◌, ℕ, Bool, nat_eq, List, [], ◌∷◌, find, codes, Option, None}
use Rattle.std.specs.Cmp.Lexicographic.{pointwise}
use Rattle.java_tokens.specs.declared.token.TokenKind.{TokenKind}
use Rattle.java_tokens.specs.declared.token.TokenKind.TheVariants as k
use Rattle.token_reading.specs.declared.name.Ident.{Ident}
use Rattle.token_reading.specs.Lexeme.{Lexeme}
use Rattle.token_reading.specs.Types.{IsIdent}
use Rattle.spec_trees.specs.declared.word.ContractWord.{ContractWord}
use Rattle.spec_trees.specs.declared.word.ContractWord.TheVariants as word

abbrev pub word_text : ContractWord → List ℕ
word_text word.Requires = codes "requires"
word_text word.Ints = codes "ints"
word_text word.Modifies = codes "modifies"
word_text word.Adds = codes "adds"
word_text word.Within = codes "within"
word_text word.Ensures = codes "ensures"
word_text word.All = codes "all"
word_text word.Exists = codes "some"
word_text word.No = codes "no"
word_text word.One = codes "one"
word_text word.Lone = codes "lone"
word_text word.Sum = codes "sum"
word_text word.Old = codes "old"
word_text word.Answer = codes "result"
word_text word.In = codes "in"

abbrev pub all_words : List ContractWord
all_words =
    word.Requires ∷ word.Ints ∷ word.Modifies ∷ word.Adds ∷ word.Within ∷ word.Ensures ∷ word.All ∷ word.Exists ∷ word.No ∷ word.One
    ∷ word.Lone ∷ word.Sum ∷ word.Old ∷ word.Answer ∷ word.In ∷ []

-- the text is spelled as the word
abbrev pub is_word : List ℕ → ContractWord → Bool
is_word x w = pointwise nat_eq x (word_text w)

-- the word that a text is, if it is one
unfoldable pub word_of : List ℕ → Option ContractWord
word_of x = find (is_word x) all_words

-- the token that a word is
abbrev pub word_kind : ContractWord → TokenKind
word_kind w = k.Ident (word_text w)

-- an identifier that is no word of contracts comes first, and the rest stands after it
abbrev pub IsName : Ident → List Lexeme → List Lexeme → Type 0
IsName x xs rest = IsIdent x xs rest × (word_of x.name ≡ None)
