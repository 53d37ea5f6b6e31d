-- What is claimed of terms.
use Rattle.std.specs.Prelude.{◌≡◌, ℕ, ◌<◌, ◌≤◌, List, length, Ok, Err}
use Rattle.token_reading.specs.Lexeme.{Lexeme}
use Rattle.token_reading.specs.Outcome.{no_tree, too_high}
use Rattle.spec_trees.specs.declared.term.TermTree.{TermTree}
use Rattle.spec_trees.specs.Terms.{TermWithin}
use Rattle.spec_trees.specs.Height.{term_height}
use Rattle.spec_reading.specs.ReadTerm.{term_follows, read_term}

-- the term, of some height, is written at the front, and no token that binds to it stands after it
abbrev pub TermStands : TermTree → List Lexeme → List Lexeme → Type 0
TermStands t xs rest = (n : ℕ) × TermWithin n t 1 xs rest × (term_follows rest ≡ 0)

-- no tokens are two terms
abbrev pub OneTerm : Type 0
OneTerm = (s t : TermTree) (xs ys zs : List Lexeme) → TermStands s xs ys → TermStands t xs zs → (s ≡ t) × (ys ≡ zs)

-- A term of height n or less that stands at the front is read, with its height.
abbrev pub FindsTerms : Type 0
FindsTerms = (n : ℕ) (t : TermTree) (xs rest : List Lexeme) → TermStands t xs rest → term_height t ≤ n
    → read_term n 1 xs ≡ Ok ((t, term_height t), rest)

-- What is read is written, and has the height that is given with it, which is no greater than n.
abbrev pub GivesTerms : Type 0
GivesTerms = (n : ℕ) (t : TermTree) (h : ℕ) (xs rest : List Lexeme) → read_term n 1 xs ≡ Ok ((t, h), rest)
    → TermWithin n t 1 xs rest × (h ≡ term_height t)

-- Where no tree is read none stands, of whatever height.
abbrev pub RefusesTerms : Type 0
RefusesTerms = (n : ℕ) (t : TermTree) (xs rest : List Lexeme) → read_term n 1 xs ≡ Err no_tree → TermStands t xs rest → ⊥

-- Where trees are too high, each that stands is higher than n, and there are more than n tokens.
abbrev pub RefusesHighTerms : Type 0
RefusesHighTerms = (n : ℕ) (xs : List Lexeme) → read_term n 1 xs ≡ Err too_high
    → ((t : TermTree) (rest : List Lexeme) → TermStands t xs rest → n < term_height t) × (n < length xs)

-- The height of a term is the least number with which it is written.
abbrev pub TermHeightIsLeast : Type 0
TermHeightIsLeast = (n : ℕ) (t : TermTree) (l : ℕ) (xs rest : List Lexeme) → TermWithin n t l xs rest
    → TermWithin (term_height t) t l xs rest × (term_height t ≤ n)
