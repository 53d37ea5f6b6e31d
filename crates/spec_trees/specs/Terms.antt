-- Which terms the tokens are.
--
--     Term  = ( "all" | "some" | "no" | "sum" ) Ident ":" TAdd "|" Term | TIff
--     TIff  = TImp { "<=>" TImp }
--     TImp  = TOr [ "=>" TImp ]
--     TOr   = TAnd { "||" TAnd }
--     TAnd  = TCmp { "&&" TCmp }
--     TCmp  = ( "some" | "no" | "one" | "lone" ) TAdd
--           | TAdd [ ( "==" | "!=" | "<" | "<=" | ">" | ">=" | "in" ) TAdd ]
--     TAdd  = TMeet { ( "+" | "-" ) TMeet }
--     TMeet = TMul { "&" TMul }
--     TMul  = TUn { "*" TUn }
--     TUn   = ( "-" | "#" | "!" ) TUn | TPost
--     TPost = TPrim { "." Link }
--     TPrim = Number | "true" | "false" | "null" | "this" | "result" | Ident
--           | Ident "(" [ Term { "," Term } ] ")" | "old" "(" Term ")" | "(" Term ")"
--
-- An Ident is no word of contracts.
use Rattle.std.specs.Prelude.{◌≡◌, ℕ, zero, suc, ◌≤◌, List, [], ◌∷◌, Bool, true, false}
use Rattle.java_tokens.specs.declared.token.Keyword.{Keyword}
use Rattle.java_tokens.specs.declared.token.Keyword.TheVariants as w
use Rattle.java_tokens.specs.declared.token.Operator.TheVariants as o
use Rattle.java_tokens.specs.declared.token.TokenKind.{TokenKind}
use Rattle.java_tokens.specs.declared.token.TokenKind.TheVariants as k
use Rattle.token_reading.specs.Lexeme.{Lexeme, lexeme, Then}
use Rattle.spec_trees.specs.declared.contract.NumberTree.{NumberTree}
use Rattle.spec_trees.specs.declared.link.LinkTree.{LinkTree}
use Rattle.spec_trees.specs.declared.operator.PrefixOp.{PrefixOp}
use Rattle.spec_trees.specs.declared.operator.PrefixOp.TheVariants as prefix
use Rattle.spec_trees.specs.declared.operator.Quantifier.{Quantifier}
use Rattle.spec_trees.specs.declared.operator.Quantifier.TheVariants as quantifier
use Rattle.spec_trees.specs.declared.operator.TermOp.{TermOp}
use Rattle.spec_trees.specs.declared.operator.TermOp.TheVariants as op
use Rattle.spec_trees.specs.declared.term.TermTree.{TermTree, out-TermTree}
use Rattle.spec_trees.specs.declared.term.TermTree.TheOpen.{TermTree-F}
use Rattle.spec_trees.specs.declared.word.ContractWord.{ContractWord}
use Rattle.spec_trees.specs.declared.word.ContractWord.TheVariants as word
use Rattle.spec_trees.specs.Words.{word_kind, IsName}
use Rattle.spec_trees.specs.Links.{LinkWithin}

-- one level of a term
abbrev pub TermLayer : Type 0
TermLayer = TermTree-F TermTree

-- ---- operators

-- the token between two terms
abbrev pub term_sign : TermOp → TokenKind
term_sign op.Iff = k.Op o.Iff
term_sign op.Implies = k.Op o.Implies
term_sign op.Or = k.Op o.OrOr
term_sign op.And = k.Op o.AndAnd
term_sign op.Equal = k.Op o.Equal
term_sign op.NotEqual = k.Op o.NotEqual
term_sign op.Less = k.Op o.Less
term_sign op.LessEqual = k.Op o.LessEqual
term_sign op.Greater = k.Op o.Greater
term_sign op.GreaterEqual = k.Op o.GreaterEqual
term_sign op.In = word_kind word.In
term_sign op.Plus = k.Op o.Plus
term_sign op.Minus = k.Op o.Minus
term_sign op.Meet = k.Op o.And
term_sign op.Times = k.Op o.Star

-- the token before a term
abbrev pub prefix_sign : PrefixOp → TokenKind
prefix_sign prefix.Negate = k.Op o.Minus
prefix_sign prefix.Count = k.Op o.Hash
prefix_sign prefix.Not = k.Op o.Not
prefix_sign prefix.Exists = word_kind word.Exists
prefix_sign prefix.No = word_kind word.No
prefix_sign prefix.One = word_kind word.One
prefix_sign prefix.Lone = word_kind word.Lone

abbrev pub quantifier_word : Quantifier → ContractWord
quantifier_word quantifier.All = word.All
quantifier_word quantifier.Exists = word.Exists
quantifier_word quantifier.No = word.No
quantifier_word quantifier.Sum = word.Sum

-- `true` and `false`
abbrev pub truth_word : Bool → Keyword
truth_word true = w.True
truth_word false = w.False

-- ---- levels of precedence, from the loosest: 1 quantifiers, 2 `<=>`, 3 `=>`, 4 `||`, 5 `&&`, 6 comparisons and `some`,
-- `no`, `one` and `lone` of a set, 7 sums, 8 `&`, 9 products, 10 `-`, `#` and `!` before an operand, 11 all others

-- of what an operator makes
abbrev pub op_level : TermOp → ℕ
op_level op.Iff = 2
op_level op.Implies = 3
op_level op.Or = 4
op_level op.And = 5
op_level op.Plus = 7
op_level op.Minus = 7
op_level op.Meet = 8
op_level op.Times = 9
op_level _ = 6

-- of its left operand at least: `=>` isn't a left operand of `=>`, and no comparison is an operand of one
abbrev pub left_level : TermOp → ℕ
left_level op.Iff = 2
left_level op.Implies = 4
left_level op.Or = 4
left_level op.And = 5
left_level op.Plus = 7
left_level op.Minus = 7
left_level op.Meet = 8
left_level op.Times = 9
left_level _ = 7

-- of its right operand at least: `=>` alone associates to the right
abbrev pub right_level : TermOp → ℕ
right_level op.Iff = 3
right_level op.Implies = 3
right_level op.Or = 5
right_level op.And = 6
right_level op.Plus = 8
right_level op.Minus = 8
right_level op.Meet = 9
right_level op.Times = 10
right_level _ = 7

-- of what an operator before its operand makes
abbrev pub prefix_level : PrefixOp → ℕ
prefix_level prefix.Negate = 10
prefix_level prefix.Count = 10
prefix_level prefix.Not = 10
prefix_level _ = 6

-- of that operand at least
abbrev pub operand_level : PrefixOp → ℕ
operand_level prefix.Negate = 10
operand_level prefix.Count = 10
operand_level prefix.Not = 10
operand_level _ = 7

-- the level of a node
abbrev pub term_level : TermLayer → ℕ
term_level (TermTree-F.Quantified at q x s t) = 1
term_level (TermTree-F.Binary p s t) = op_level p
term_level (TermTree-F.Prefix at p t) = prefix_level p
term_level _ = 11

-- a number without a sign
abbrev pub IsNumber : NumberTree → List Lexeme → List Lexeme → Type 0
IsNumber x xs rest = xs ≡ lexeme x.at (k.Number x.value) ∷ rest

-- ---- the grammar. `Part t l xs rest` says that the term t, of level l or above, is written at the front of xs, and
-- that the rest stands after it; `Link` says the same of relations.

module _ (Part : TermTree → ℕ → List Lexeme → List Lexeme → Type 0) where
  -- further arguments, and the closing parenthesis
  abbrev pub MoreTerms : List TermTree → List Lexeme → List Lexeme → Type 0
  MoreTerms [] xs rest = Then (k.Op o.RightParen) xs rest
  MoreTerms (a ∷ more) xs rest =
      (ys : List Lexeme) × Then (k.Op o.Comma) xs ys × (zs : List Lexeme) × Part a 1 ys zs × MoreTerms more zs rest

  -- the arguments after the opening parenthesis
  abbrev pub Terms : List TermTree → List Lexeme → List Lexeme → Type 0
  Terms [] xs rest = Then (k.Op o.RightParen) xs rest
  Terms (a ∷ more) xs rest = (ys : List Lexeme) × Part a 1 xs ys × MoreTerms more ys rest

module _ (Part : TermTree → ℕ → List Lexeme → List Lexeme → Type 0)
    (Link : LinkTree → ℕ → List Lexeme → List Lexeme → Type 0) where
  -- one production for each kind of node
  abbrev pub TermNode : TermLayer → List Lexeme → List Lexeme → Type 0
  TermNode (TermTree-F.Number x) xs rest = IsNumber x xs rest
  TermNode (TermTree-F.Bool at b) xs rest = xs ≡ lexeme at (k.Word (truth_word b)) ∷ rest
  TermNode (TermTree-F.Null at) xs rest = xs ≡ lexeme at (k.Word w.Null) ∷ rest
  TermNode (TermTree-F.This at) xs rest = xs ≡ lexeme at (k.Word w.This) ∷ rest
  TermNode (TermTree-F.Answer at) xs rest = xs ≡ lexeme at (word_kind word.Answer) ∷ rest
  TermNode (TermTree-F.Name x) xs rest = IsName x xs rest
  TermNode (TermTree-F.Call x given) xs rest =
      (ys : List Lexeme) × IsName x xs ys × (zs : List Lexeme) × Then (k.Op o.LeftParen) ys zs × Terms Part given zs rest
  TermNode (TermTree-F.Old at t) xs rest =
      (ys : List Lexeme) × (xs ≡ lexeme at (word_kind word.Old) ∷ ys) × (zs : List Lexeme) × Then (k.Op o.LeftParen) ys zs
      × (us : List Lexeme) × Part t 1 zs us × Then (k.Op o.RightParen) us rest
  TermNode (TermTree-F.Paren at t) xs rest =
      (ys : List Lexeme) × (xs ≡ lexeme at (k.Op o.LeftParen) ∷ ys)
      × (zs : List Lexeme) × Part t 1 ys zs × Then (k.Op o.RightParen) zs rest
  TermNode (TermTree-F.Image s r) xs rest =
      (ys : List Lexeme) × Part s 11 xs ys × (zs : List Lexeme) × Then (k.Op o.Dot) ys zs × Link r 4 zs rest
  TermNode (TermTree-F.Prefix at p t) xs rest =
      (ys : List Lexeme) × (xs ≡ lexeme at (prefix_sign p) ∷ ys) × Part t (operand_level p) ys rest
  TermNode (TermTree-F.Binary p s t) xs rest =
      (ys : List Lexeme) × Part s (left_level p) xs ys × (zs : List Lexeme) × Then (term_sign p) ys zs
      × Part t (right_level p) zs rest
  TermNode (TermTree-F.Quantified at q x s t) xs rest =
      (ys : List Lexeme) × (xs ≡ lexeme at (word_kind (quantifier_word q)) ∷ ys) × (zs : List Lexeme) × IsName x ys zs
      × (us : List Lexeme) × Then (k.Op o.Colon) zs us × (vs : List Lexeme) × Part s 7 us vs
      × (ws : List Lexeme) × Then (k.Op o.Or) vs ws × Part t 1 ws rest

-- The term, of at most this height and of this level or above, is written at the front of the first list, and the
-- second stands after it.
unfoldable pub TermWithin : ℕ → TermTree → ℕ → List Lexeme → List Lexeme → Type 0
TermWithin zero t l xs rest = ⊥
TermWithin (suc n) t l xs rest =
    (l ≤ term_level (out-TermTree t)) × TermNode (TermWithin n) (LinkWithin n) (out-TermTree t) xs rest
