-- What may stand after a term of a level.
use Rattle.std.proofs.Common.{◌≡◌, ◌∙◌, ℕ, ◌+◌, ◌≤◌, ◌<◌, List, [], ◌∷◌, Bool, true, false, Option, Some, refl, sym, ap, arith}
use Rattle.java_tokens.specs.declared.token.Operator.{Operator}
use Rattle.java_tokens.specs.declared.token.Operator.TheVariants as o
use Rattle.java_tokens.specs.declared.token.TokenKind.{TokenKind}
use Rattle.java_tokens.specs.declared.token.TokenKind.TheVariants as k
use Rattle.token_reading.specs.Lexeme.{Lexeme, lexeme, Then, same_operator, is_operator, sees}
use Rattle.token_reading.specs.ReadType.{next}
use Rattle.token_reading.proofs.Lexemes.{from_sees}
use Rattle.spec_trees.specs.declared.operator.PrefixOp.{PrefixOp}
use Rattle.spec_trees.specs.declared.operator.PrefixOp.TheVariants as prefix
use Rattle.spec_trees.specs.declared.operator.TermOp.{TermOp}
use Rattle.spec_trees.specs.declared.operator.TermOp.TheVariants as op
use Rattle.spec_trees.specs.declared.term.TermTree.TheOpen.{TermTree-F}
use Rattle.spec_trees.specs.declared.word.ContractWord.{ContractWord}
use Rattle.spec_trees.specs.declared.word.ContractWord.TheVariants as word
use Rattle.spec_trees.specs.Terms.{TermLayer, term_sign, op_level, left_level, right_level, prefix_level, operand_level, term_level}
use Rattle.spec_trees.specs.Words.{word_kind, word_of}
use Rattle.spec_trees.proofs.WordLemmas.{word_read, word_spelled}
use Rattle.spec_reading.specs.declared.term_infix.TermInfix.{TermInfix}
use Rattle.spec_reading.specs.declared.term_infix.TermInfix.TheVariants as i
use Rattle.spec_reading.specs.ReadTerm.{term_operator, word_infix, term_infix, term_binds, infix_at, term_follows, op_end, prefix_end}

-- how tightly the token after a term may bind at most
abbrev pub term_after : TermLayer → ℕ
term_after (TermTree-F.Quantified at q x a c) = 0
term_after (TermTree-F.Binary p a c) = op_end p
term_after (TermTree-F.Prefix at p a) = prefix_end p
term_after (TermTree-F.Name x) = 12
term_after _ = 13

-- ---- the levels of operators

pub record OpRange (p : TermOp) : Type 0 where
  pub low : 2 ≤ op_level p
  pub high : op_level p ≤ 9
  pub left : op_level p ≤ left_level p
  pub left_most : left_level p ≤ op_level p + 1
  pub right_low : 2 ≤ right_level p
  pub right_high : right_level p ≤ 10
  pub end_low : op_end p ≤ op_level p
  pub end : op_end p < right_level p
  pub below : op_level p ≤ op_end p + 1

pub op_range : (p : TermOp) → OpRange p
op_range op.Iff = record {
  low = omega arith;
  high = omega arith;
  left = omega arith;
  left_most = omega arith;
  right_low = omega arith;
  right_high = omega arith;
  end_low = omega arith;
  end = omega arith;
  below = omega arith;
}
op_range _ = record {
  low = omega arith;
  high = omega arith;
  left = omega arith;
  left_most = omega arith;
  right_low = omega arith;
  right_high = omega arith;
  end_low = omega arith;
  end = omega arith;
  below = omega arith;
}

pub record PrefixRange (p : PrefixOp) : Type 0 where
  pub low : 6 ≤ prefix_level p
  pub high : prefix_level p ≤ 10
  pub operand_low : 7 ≤ operand_level p
  pub operand_high : operand_level p ≤ 10
  pub below : prefix_level p ≤ prefix_end p + 1
  pub end_low : prefix_end p < prefix_level p
  pub end : prefix_end p < operand_level p

pub prefix_range : (p : PrefixOp) → PrefixRange p
prefix_range prefix.Negate = record {
  low = omega arith;
  high = omega arith;
  operand_low = omega arith;
  operand_high = omega arith;
  below = omega arith;
  end_low = omega arith;
  end = omega arith;
}
prefix_range _ = record {
  low = omega arith;
  high = omega arith;
  operand_low = omega arith;
  operand_high = omega arith;
  below = omega arith;
  end_low = omega arith;
  end = omega arith;
}

pub term_level_range : (f : TermLayer) → (1 ≤ term_level f) × (term_level f ≤ 11)
term_level_range (TermTree-F.Quantified at q x a c) = (omega arith, omega arith)
term_level_range (TermTree-F.Binary p a c) = (omega (arith, (op_range p).low), omega (arith, (op_range p).high))
term_level_range (TermTree-F.Prefix at p a) = (omega (arith, (prefix_range p).low), omega (arith, (prefix_range p).high))
term_level_range _ = (omega arith, omega arith)

-- a token that ends a term of the level
pub term_ends : (f : TermLayer) (l c : ℕ) → l ≤ term_level f → c < l → c ≤ term_after f
term_ends (TermTree-F.Quantified at q x a b) l c top low = omega arith
term_ends (TermTree-F.Binary p a b) l c top low = omega (arith, (op_range p).below)
term_ends (TermTree-F.Prefix at p a) l c top low = omega (arith, (prefix_range p).below)
term_ends _ l c top low = omega arith

-- ---- which operators may stand after a term

under_implies : (q : TermOp) → left_level q ≤ 3 → op_level q ≤ 2
under_implies op.Iff h = omega arith
under_implies _ h = omega arith

under_comparison : (q : TermOp) → left_level q ≤ 6 → op_level q ≤ 5
under_comparison op.Iff h = omega arith
under_comparison _ h = omega arith

over_implies : (p : TermOp) → 3 ≤ op_end p → 4 ≤ op_level p
over_implies op.Iff h = omega arith
over_implies _ h = omega arith

over_comparison : (p : TermOp) → 6 ≤ op_end p → 7 ≤ op_level p
over_comparison op.Iff h = omega arith
over_comparison _ h = omega arith

after_op : (p q : TermOp) → left_level q ≤ op_level p → op_level q ≤ op_end p
after_op op.Iff q h = omega (arith, (op_range q).left)
after_op op.Implies q h = under_implies q h
after_op op.Or q h = omega (arith, (op_range q).left)
after_op op.And q h = omega (arith, (op_range q).left)
after_op op.Plus q h = omega (arith, (op_range q).left)
after_op op.Minus q h = omega (arith, (op_range q).left)
after_op op.Meet q h = omega (arith, (op_range q).left)
after_op op.Times q h = omega (arith, (op_range q).left)
after_op _ q h = under_comparison q h

before_op : (p q : TermOp) → op_level q ≤ op_end p → left_level q ≤ op_level p
before_op p op.Iff h = omega (arith, (op_range p).end_low)
before_op p op.Implies h = over_implies p h
before_op p op.Or h = omega (arith, (op_range p).end_low)
before_op p op.And h = omega (arith, (op_range p).end_low)
before_op p op.Plus h = omega (arith, (op_range p).end_low)
before_op p op.Minus h = omega (arith, (op_range p).end_low)
before_op p op.Meet h = omega (arith, (op_range p).end_low)
before_op p op.Times h = omega (arith, (op_range p).end_low)
before_op p _ h = over_comparison p h

after_prefix : (p : PrefixOp) (q : TermOp) → left_level q ≤ prefix_level p → op_level q ≤ prefix_end p
after_prefix prefix.Negate q h = (op_range q).high
after_prefix prefix.Count q h = (op_range q).high
after_prefix prefix.Not q h = (op_range q).high
after_prefix _ q h = under_comparison q h

-- an operator after its left operand
pub term_joins : (f : TermLayer) (q : TermOp) → left_level q ≤ term_level f → op_level q ≤ term_after f
term_joins (TermTree-F.Quantified at p x a c) q h = absurd (omega (arith, (op_range q).low, (op_range q).left))
term_joins (TermTree-F.Binary p a c) q h = after_op p q h
term_joins (TermTree-F.Prefix at p a) q h = after_prefix p q h
term_joins _ q h = omega (arith, (op_range q).high)

-- the other way round: what an operator takes as its left operand
pub term_lifts : (f : TermLayer) (q : TermOp) → op_level q ≤ term_after f → left_level q ≤ term_level f
term_lifts (TermTree-F.Quantified at p x a c) q h = absurd (omega (arith, (op_range q).low))
term_lifts (TermTree-F.Binary p a c) q h = before_op p q h
term_lifts (TermTree-F.Prefix at p a) q h = omega (arith, (op_range q).left_most, (prefix_range p).end_low)
term_lifts _ q h = omega (arith, (op_range q).left_most, (op_range q).high)

-- a dot after the set that it belongs to
pub term_hangs : (f : TermLayer) → 11 ≤ term_level f → 11 ≤ term_after f
term_hangs (TermTree-F.Quantified at p x a c) h = absurd (omega arith)
term_hangs (TermTree-F.Binary p a c) h = absurd (omega (arith, (op_range p).high))
term_hangs (TermTree-F.Prefix at p a) h = absurd (omega (arith, (prefix_range p).high))
term_hangs _ h = omega arith

pub term_hangs_on : (f : TermLayer) → 11 ≤ term_after f → 11 ≤ term_level f
term_hangs_on (TermTree-F.Quantified at p x a c) h = absurd (omega arith)
term_hangs_on (TermTree-F.Binary p a c) h = absurd (omega (arith, (op_range p).high, (op_range p).end_low))
term_hangs_on (TermTree-F.Prefix at p a) h = absurd (omega (arith, (prefix_range p).high, (prefix_range p).end_low))
term_hangs_on _ h = omega arith

-- ---- how tightly tokens bind

pub term_binds_most : (j : TermInfix) → term_binds j ≤ 13
term_binds_most (i.Binary p) = omega (arith, (op_range p).high)
term_binds_most _ = omega arith

-- no token binds more tightly than 13
pub term_follows_most : (xs : List Lexeme) → term_follows xs ≤ 13
term_follows_most xs = term_binds_most (infix_at xs)

-- an operator's token is read as that operator
pub term_sign_read : (p : TermOp) → term_infix (term_sign p) ≡ i.Binary p
term_sign_read op.In = rw (word_read word.In) refl
term_sign_read _ = refl

-- what binds less tightly than this sign isn't this sign
looser_by : (s : Operator) (xs : List Lexeme) → term_follows xs < term_binds (term_operator s) → (t : Bool) → sees s xs ≡ t → t ≡ false
looser_by s xs low true h =
    let same : term_follows xs ≡ term_binds (term_operator s) = ap term_follows (from_sees s xs h).1 in absurd (omega arith)
looser_by s xs low false h = refl

pub term_looser : (s : Operator) (xs : List Lexeme) → term_follows xs < term_binds (term_operator s) → sees s xs ≡ false
term_looser s xs low = looser_by s xs low (sees s xs) refl

-- ---- the token that stands after a term

abbrev pub TermLeads : TermInfix → List Lexeme → Type 0
TermLeads (i.Binary p) xs = Then (term_sign p) xs (next xs)
TermLeads i.Dot xs = Then (k.Op o.Dot) xs (next xs)
TermLeads i.Paren xs = Then (k.Op o.LeftParen) xs (next xs)
TermLeads i.Colon xs = Then (k.Op o.Colon) xs (next xs)
TermLeads i.Other xs = Unit {0}

leads_operator : (x : Lexeme) (xs : List Lexeme) (s : Operator) → x.kind ≡ k.Op s → TermLeads (term_operator s) (x ∷ xs)
leads_operator x xs o.Iff is = (x.at, ap (λ kd. lexeme x.at kd ∷ xs) is)
leads_operator x xs o.Implies is = (x.at, ap (λ kd. lexeme x.at kd ∷ xs) is)
leads_operator x xs o.OrOr is = (x.at, ap (λ kd. lexeme x.at kd ∷ xs) is)
leads_operator x xs o.AndAnd is = (x.at, ap (λ kd. lexeme x.at kd ∷ xs) is)
leads_operator x xs o.Equal is = (x.at, ap (λ kd. lexeme x.at kd ∷ xs) is)
leads_operator x xs o.NotEqual is = (x.at, ap (λ kd. lexeme x.at kd ∷ xs) is)
leads_operator x xs o.Less is = (x.at, ap (λ kd. lexeme x.at kd ∷ xs) is)
leads_operator x xs o.LessEqual is = (x.at, ap (λ kd. lexeme x.at kd ∷ xs) is)
leads_operator x xs o.Greater is = (x.at, ap (λ kd. lexeme x.at kd ∷ xs) is)
leads_operator x xs o.GreaterEqual is = (x.at, ap (λ kd. lexeme x.at kd ∷ xs) is)
leads_operator x xs o.Plus is = (x.at, ap (λ kd. lexeme x.at kd ∷ xs) is)
leads_operator x xs o.Minus is = (x.at, ap (λ kd. lexeme x.at kd ∷ xs) is)
leads_operator x xs o.And is = (x.at, ap (λ kd. lexeme x.at kd ∷ xs) is)
leads_operator x xs o.Star is = (x.at, ap (λ kd. lexeme x.at kd ∷ xs) is)
leads_operator x xs o.Dot is = (x.at, ap (λ kd. lexeme x.at kd ∷ xs) is)
leads_operator x xs o.LeftParen is = (x.at, ap (λ kd. lexeme x.at kd ∷ xs) is)
leads_operator x xs o.Colon is = (x.at, ap (λ kd. lexeme x.at kd ∷ xs) is)
leads_operator x xs _ is = tt

leads_word : (x : Lexeme) (xs : List Lexeme) (y : List ℕ) (w : Option ContractWord) → x.kind ≡ k.Ident y → word_of y ≡ w
    → TermLeads (word_infix w) (x ∷ xs)
leads_word x xs y (Some word.In) is that = (x.at, ap (λ kd. lexeme x.at kd ∷ xs) (is ∙ ap k.Ident (sym (word_spelled y word.In that))))
leads_word x xs y _ is that = tt

leads_kind : (x : Lexeme) (xs : List Lexeme) (kd : TokenKind) → x.kind ≡ kd → TermLeads (term_infix kd) (x ∷ xs)
leads_kind x xs (k.Op s) is = leads_operator x xs s is
leads_kind x xs (k.Ident y) is = leads_word x xs y (word_of y) is refl
leads_kind x xs _ is = tt

pub term_leads : (xs : List Lexeme) → TermLeads (infix_at xs) xs
term_leads [] = tt
term_leads (x ∷ xs) = leads_kind x xs x.kind refl

stop_operator : (s : Operator) → same_operator s o.LeftParen ≡ false → term_binds (term_operator s) ≤ 12
unfolding same_operator
stop_operator o.LeftParen h = absurd (cc)
stop_operator _ h = omega arith

stop_word : (w : Option ContractWord) → term_binds (word_infix w) ≤ 12
stop_word (Some word.In) = omega arith
stop_word _ = omega arith

stop_kind : (kd : TokenKind) → is_operator o.LeftParen kd ≡ false → term_binds (term_infix kd) ≤ 12
stop_kind (k.Op s) h = stop_operator s h
stop_kind (k.Ident y) h = stop_word (word_of y)
stop_kind _ h = omega arith

-- after a name that is no call
pub name_stop : (xs : List Lexeme) → sees o.LeftParen xs ≡ false → term_follows xs ≤ 12
name_stop [] h = omega arith
name_stop (x ∷ xs) h = stop_kind x.kind h

-- a word of contracts other than `in` is no operator
pub word_ends : (w : ContractWord) (at : ℕ) (xs : List Lexeme) → (w ≡ word.In → ⊥) → term_follows (lexeme at (word_kind w) ∷ xs) ≡ 0
word_ends word.In at xs h = absurd (h refl)
word_ends w at xs h = rw (word_read w) refl
