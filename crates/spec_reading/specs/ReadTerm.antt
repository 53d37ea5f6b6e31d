-- Reading of terms, as functions on lists.
use Rattle.std.specs.Prelude.{ℕ, zero, suc, ◌+◌, ◌&&◌, max, nat_lt, if◌then◌else◌, List, [], ◌∷◌, ◌++◌, length, Bool, true, false, Option, Some, None, Ok, Err}
use Rattle.java_tokens.specs.declared.token.Keyword.{Keyword}
use Rattle.java_tokens.specs.declared.token.Keyword.TheVariants as w
use Rattle.java_tokens.specs.declared.token.Operator.{Operator}
use Rattle.java_tokens.specs.declared.token.Operator.TheVariants as o
use Rattle.java_tokens.specs.declared.token.TokenKind.{TokenKind}
use Rattle.java_tokens.specs.declared.token.TokenKind.TheVariants as k
use Rattle.token_reading.specs.declared.name.Ident.{Ident}
use Rattle.token_reading.specs.Lexeme.{Lexeme, sees}
use Rattle.token_reading.specs.Outcome.{no_tree, too_high, Parser, ◌>>=◌}
use Rattle.token_reading.specs.ReadType.{next, expect, none_fits, sees_name, ident_at}
use Rattle.spec_trees.specs.declared.contract.NumberTree.{NumberTree}
use Rattle.spec_trees.specs.declared.operator.PrefixOp.{PrefixOp}
use Rattle.spec_trees.specs.declared.operator.PrefixOp.TheVariants as prefix
use Rattle.spec_trees.specs.declared.operator.Quantifier.{Quantifier}
use Rattle.spec_trees.specs.declared.operator.Quantifier.TheVariants as quantifier
use Rattle.spec_trees.specs.declared.operator.TermOp.{TermOp}
use Rattle.spec_trees.specs.declared.operator.TermOp.TheVariants as op
use Rattle.spec_trees.specs.declared.term.TermTree.{TermTree}
use Rattle.spec_trees.specs.declared.term.TermTree.TheVariants as t
use Rattle.spec_trees.specs.declared.word.ContractWord.{ContractWord}
use Rattle.spec_trees.specs.declared.word.ContractWord.TheVariants as word
use Rattle.spec_trees.specs.Terms.{op_level, right_level, prefix_level, operand_level}
use Rattle.spec_trees.specs.Words.{word_of}
use Rattle.spec_reading.specs.declared.term_infix.TermInfix.{TermInfix}
use Rattle.spec_reading.specs.declared.term_infix.TermInfix.TheVariants as i
use Rattle.spec_reading.specs.ReadLink.{TallLink, name, read_link}

-- a term and its height
abbrev pub TallTerm : Type 0
TallTerm = TermTree × ℕ

-- terms in order and the greatest of their heights
abbrev pub TallTerms : Type 0
TallTerms = List TermTree × ℕ

-- ---- what a token does after a term

abbrev pub term_operator : Operator → TermInfix
term_operator o.Iff = i.Binary op.Iff
term_operator o.Implies = i.Binary op.Implies
term_operator o.OrOr = i.Binary op.Or
term_operator o.AndAnd = i.Binary op.And
term_operator o.Equal = i.Binary op.Equal
term_operator o.NotEqual = i.Binary op.NotEqual
term_operator o.Less = i.Binary op.Less
term_operator o.LessEqual = i.Binary op.LessEqual
term_operator o.Greater = i.Binary op.Greater
term_operator o.GreaterEqual = i.Binary op.GreaterEqual
term_operator o.Plus = i.Binary op.Plus
term_operator o.Minus = i.Binary op.Minus
term_operator o.And = i.Binary op.Meet
term_operator o.Star = i.Binary op.Times
term_operator o.Dot = i.Dot
term_operator o.LeftParen = i.Paren
term_operator o.Colon = i.Colon
term_operator _ = i.Other

abbrev pub word_infix : Option ContractWord → TermInfix
word_infix (Some word.In) = i.Binary op.In
word_infix _ = i.Other

abbrev pub term_infix : TokenKind → TermInfix
term_infix (k.Op s) = term_operator s
term_infix (k.Ident x) = word_infix (word_of x)
term_infix _ = i.Other

-- How tightly it binds to the term: the level of what it makes, and 0 where it makes nothing. A `:` makes a variable of a
-- name alone, a `(` a call, and they bind more tightly than all others.
abbrev pub term_binds : TermInfix → ℕ
term_binds (i.Binary p) = op_level p
term_binds i.Dot = 11
term_binds i.Colon = 12
term_binds i.Paren = 13
term_binds i.Other = 0

abbrev pub infix_at : List Lexeme → TermInfix
infix_at [] = i.Other
infix_at (x ∷ xs) = term_infix x.kind

-- how tightly the first token binds to a term before it
abbrev pub term_follows : List Lexeme → ℕ
term_follows xs = term_binds (infix_at xs)

-- how tightly a token may bind at most after what an operator makes: less tightly than a comparison after a comparison,
-- and than `=>` after what `=>` makes
abbrev pub op_end : TermOp → ℕ
op_end op.Iff = 2
op_end op.Implies = 2
op_end op.Or = 4
op_end op.And = 5
op_end op.Plus = 7
op_end op.Minus = 7
op_end op.Meet = 8
op_end op.Times = 9
op_end _ = 5

abbrev pub prefix_end : PrefixOp → ℕ
prefix_end prefix.Negate = 9
prefix_end prefix.Count = 9
prefix_end prefix.Not = 9
prefix_end _ = 5

-- a name and a `:`, as after a quantifier
abbrev pub sees_variable : List Lexeme → Bool
sees_variable xs = sees_name xs && sees o.Colon (next xs)

abbrev pub number_of : ℕ → ℕ → NumberTree
number_of at value = record { at = at; value = value }

-- a literal or `this`
abbrev pub keyword_prefix : ℕ → Keyword → Parser TallTerm
keyword_prefix at w.True xs = Ok ((t.Bool at true, 1), xs)
keyword_prefix at w.False xs = Ok ((t.Bool at false, 1), xs)
keyword_prefix at w.Null xs = Ok ((t.Null at, 1), xs)
keyword_prefix at w.This xs = Ok ((t.This at, 1), xs)
keyword_prefix at _ xs = Err no_tree

-- ---- terms. `part l` reads one of level l or above that is lower than the whole.

module _ (part : ℕ → Parser TallTerm) where
  -- arguments and the closing parenthesis, after those that are found; the first number bounds the turns
  unfoldable pub more_terms : ℕ → List TermTree → ℕ → Parser TallTerms
  more_terms zero found height xs = Err no_tree
  more_terms (suc n) found height xs =
      part 1 xs >>= (λ a ys.
      if sees o.Comma ys then more_terms n (found ++ a.0 ∷ []) (max height a.1) (next ys)
      else (expect o.RightParen ys >>= (λ _ zs. Ok ((found ++ a.0 ∷ [], max height a.1), zs))))

  -- the arguments after the opening parenthesis
  unfoldable pub terms : Parser TallTerms
  terms xs = if sees o.RightParen xs then Ok (([], 0), next xs) else more_terms (length xs) [] 0 xs

  -- after a name that is no word of contracts
  unfoldable pub called : Ident → Parser TallTerm
  called x xs =
      if sees o.LeftParen xs then (terms (next xs) >>= (λ r ys. Ok ((t.Call x r.0, r.1 + 1), ys))) else Ok ((t.Name x, 1), xs)

  -- a term and the closing parenthesis
  unfoldable pub closed : Parser TallTerm
  closed xs = part 1 xs >>= (λ a ys. expect o.RightParen ys >>= (λ _ zs. Ok (a, zs)))

  -- after `old`
  unfoldable pub old : ℕ → Parser TallTerm
  old at xs = expect o.LeftParen xs >>= (λ _ ys. closed ys >>= (λ a zs. Ok ((t.Old at a.0, a.1 + 1), zs)))

  -- after a `(`
  unfoldable pub term_parens : ℕ → Parser TallTerm
  term_parens at xs = closed xs >>= (λ a ys. Ok ((t.Paren at a.0, a.1 + 1), ys))

  -- after an operator before its operand
  unfoldable pub term_operand : ℕ → ℕ → PrefixOp → Parser TallTerm
  term_operand least at p xs =
      if nat_lt (prefix_level p) least then Err no_tree
      else (part (operand_level p) xs >>= (λ a ys.
      if nat_lt (prefix_end p) (term_follows ys) then Err no_tree else Ok ((t.Prefix at p a.0, a.1 + 1), ys)))

  -- the set of a quantifier, between its `:` and its `|`
  unfoldable pub range : Parser TallTerm
  range xs = expect o.Colon xs >>= (λ _ ys. part 7 ys >>= (λ a zs. expect o.Or zs >>= (λ _ us. Ok (a, us))))

  -- after the word of a quantifier
  unfoldable pub quantified : ℕ → ℕ → Quantifier → Parser TallTerm
  quantified least at q xs =
      if nat_lt 1 least then Err no_tree
      else (name xs >>= (λ x ys. range ys >>= (λ a zs. part 1 zs >>= (λ b us.
      Ok ((t.Quantified at q x a.0 b.0, max a.1 b.1 + 1), us)))))

  -- after `some` or `no`: a variable makes a quantifier of it
  abbrev pub some_or_no : ℕ → ℕ → Quantifier → PrefixOp → Parser TallTerm
  some_or_no least at q p xs = if sees_variable xs then quantified least at q xs else term_operand least at p xs

  -- after a word of contracts
  abbrev pub word_prefix : ℕ → ℕ → ContractWord → Parser TallTerm
  word_prefix least at word.All xs = quantified least at quantifier.All xs
  word_prefix least at word.Sum xs = quantified least at quantifier.Sum xs
  word_prefix least at word.Exists xs = some_or_no least at quantifier.Exists prefix.Exists xs
  word_prefix least at word.No xs = some_or_no least at quantifier.No prefix.No xs
  word_prefix least at word.One xs = term_operand least at prefix.One xs
  word_prefix least at word.Lone xs = term_operand least at prefix.Lone xs
  word_prefix least at word.Old xs = old at xs
  word_prefix least at word.Answer xs = Ok ((t.Answer at, 1), xs)
  word_prefix least at _ xs = Err no_tree

  abbrev pub name_prefix : ℕ → Ident → Option ContractWord → Parser TallTerm
  name_prefix least x None xs = called x xs
  name_prefix least x (Some w) xs = word_prefix least x.at w xs

  abbrev pub operator_prefix : ℕ → ℕ → Operator → Parser TallTerm
  operator_prefix least at o.LeftParen xs = term_parens at xs
  operator_prefix least at o.Minus xs = term_operand least at prefix.Negate xs
  operator_prefix least at o.Hash xs = term_operand least at prefix.Count xs
  operator_prefix least at o.Not xs = term_operand least at prefix.Not xs
  operator_prefix least at _ xs = Err no_tree

  abbrev pub term_prefix_by : ℕ → ℕ → TokenKind → Parser TallTerm
  term_prefix_by least at (k.Number v) xs = Ok ((t.Number (number_of at v), 1), xs)
  term_prefix_by least at (k.Ident x) xs = name_prefix least (ident_at at x) (word_of x) xs
  term_prefix_by least at (k.Word s) xs = keyword_prefix at s xs
  term_prefix_by least at (k.Op s) xs = operator_prefix least at s xs
  term_prefix_by least at _ xs = Err no_tree

  -- a term that begins with a token of its own
  unfoldable pub term_prefix : ℕ → Parser TallTerm
  term_prefix least [] = Err no_tree
  term_prefix least (x ∷ xs) = term_prefix_by least x.at x.kind xs

  -- after an operator between two terms
  unfoldable pub term_operated : TallTerm → TermOp → Parser TallTerm
  term_operated left p xs =
      part (right_level p) xs >>= (λ a ys.
      if nat_lt (op_end p) (term_follows ys) then Err no_tree else Ok ((t.Binary p left.0 a.0, max left.1 a.1 + 1), ys))

-- after a `.`; `link` reads a relation that is lower than the whole
unfoldable pub image : Parser TallLink → TallTerm → Parser TallTerm
image link left xs = link xs >>= (λ r ys. Ok ((t.Image left.0 r.0, max left.1 r.1 + 1), ys))

module _ (part : ℕ → Parser TallTerm) (link : Parser TallLink) where
  abbrev pub term_behind : TallTerm → TermInfix → Parser TallTerm
  term_behind left (i.Binary p) xs = term_operated part left p xs
  term_behind left i.Dot xs = image link left xs
  term_behind left i.Paren xs = Err no_tree
  term_behind left i.Colon xs = Err no_tree
  term_behind left i.Other xs = Err no_tree

module _ (n : ℕ) (part : ℕ → Parser TallTerm) (link : Parser TallLink) where
  -- Goes on with what binds as tightly as `least` while the whole isn't higher than its parts, of height n, and one
  -- more; the second number bounds the turns.
  unfoldable pub term_climb : ℕ → ℕ → TallTerm → Parser TallTerm
  term_climb least zero left xs = if nat_lt (term_follows xs) least then Ok (left, xs) else Err too_high
  term_climb least (suc turns) left xs =
      if nat_lt (term_follows xs) least then Ok (left, xs)
      else
      (if nat_lt left.1 (suc n) then (term_behind part link left (infix_at xs) (next xs) >>= term_climb least turns) else Err too_high)

  unfoldable pub term_precedence : ℕ → Parser TallTerm
  term_precedence least xs = term_prefix part least xs >>= term_climb least (suc n)

-- a term of level `least` or above and of at most this height
unfoldable pub read_term : ℕ → ℕ → Parser TallTerm
read_term zero least xs = none_fits xs
read_term (suc n) least xs = term_precedence n (read_term n) (read_link n 4) least xs
