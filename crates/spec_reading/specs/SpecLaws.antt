-- What is claimed of spec methods.
use Rattle.std.specs.Prelude.{◌≡◌, ℕ, ◌<◌, ◌≤◌, List, length, true, Ok, Err, codes}
use Rattle.java_tokens.specs.declared.token.TokenKind.TheVariants as k
use Rattle.token_reading.specs.declared.name.Ident.{Ident}
use Rattle.token_reading.specs.declared.name.TypeTree.{TypeTree}
use Rattle.token_reading.specs.Lexeme.{Lexeme, Then}
use Rattle.token_reading.specs.Types.{IsIdent, IsType}
use Rattle.token_reading.specs.Outcome.{no_tree, too_high}
use Rattle.spec_trees.specs.declared.contract.SpecTree.{SpecTree}
use Rattle.spec_trees.specs.Clauses.{SpecWithin}
use Rattle.spec_trees.specs.Height.{spec_height}
use Rattle.spec_reading.specs.Lookahead.{is_spec}
use Rattle.spec_reading.specs.ReadContract.{read_spec}

-- the spec method, of some height, is written at the front
abbrev pub SpecStands : SpecTree → List Lexeme → List Lexeme → Type 0
SpecStands t xs rest = (n : ℕ) × SpecWithin n t xs rest

-- no tokens are two spec methods
abbrev pub OneSpec : Type 0
OneSpec = (s t : SpecTree) (xs ys zs : List Lexeme) → SpecStands s xs ys → SpecStands t xs zs → (s ≡ t) × (ys ≡ zs)

-- A spec method of height n or less that stands at the front is read.
abbrev pub FindsSpecs : Type 0
FindsSpecs = (n : ℕ) (t : SpecTree) (xs rest : List Lexeme) → SpecStands t xs rest → spec_height t ≤ n → read_spec n xs ≡ Ok (t, rest)

-- What is read is written, and its height is no greater than n.
abbrev pub GivesSpecs : Type 0
GivesSpecs = (n : ℕ) (t : SpecTree) (xs rest : List Lexeme) → read_spec n xs ≡ Ok (t, rest) → SpecWithin n t xs rest

-- Where no tree is read none stands, of whatever height.
abbrev pub RefusesSpecs : Type 0
RefusesSpecs = (n : ℕ) (t : SpecTree) (xs rest : List Lexeme) → read_spec n xs ≡ Err no_tree → SpecStands t xs rest → ⊥

-- Where trees are too high, each that stands is higher than n, and there are as many tokens at least.
abbrev pub RefusesHighSpecs : Type 0
RefusesHighSpecs = (n : ℕ) (xs : List Lexeme) → read_spec n xs ≡ Err too_high
    → ((t : SpecTree) (rest : List Lexeme) → SpecStands t xs rest → n < spec_height t) × (n ≤ length xs)

-- The height of a spec method is the least number with which it is written, and it is written with each greater one.
abbrev pub SpecHeightIsLeast : Type 0
SpecHeightIsLeast = (n : ℕ) (t : SpecTree) (xs rest : List Lexeme) → SpecWithin n t xs rest
    → (spec_height t ≤ n) × ((m : ℕ) → spec_height t ≤ m → SpecWithin m t xs rest)

-- `spec`, a type and an identifier, with which a spec method begins
abbrev pub BeginsSpec : List Lexeme → Type 0
BeginsSpec xs =
    (ys : List Lexeme) × Then (k.Ident (codes "spec")) xs ys × (t : TypeTree) × (zs : List Lexeme) × IsType t ys zs
    × (x : Ident) × (rest : List Lexeme) × IsIdent x zs rest

-- The look-ahead sees just this, and each spec method begins so.
abbrev pub SeesSpecs : Type 0
SeesSpecs = (xs : List Lexeme) → (is_spec xs ≡ true → BeginsSpec xs) × (BeginsSpec xs → is_spec xs ≡ true)

abbrev pub SpecsBeginSo : Type 0
SpecsBeginSo = (t : SpecTree) (xs rest : List Lexeme) → SpecStands t xs rest → BeginsSpec xs
