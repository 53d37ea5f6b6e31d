-- A term that is written is read.
use Rattle.std.proofs.Common.{◌≡◌, ◌∙◌, ℕ, zero, suc, ◌+◌, ◌≤◌, ◌<◌, max, nat_lt, List, [], ◌∷◌, ◌++◌, map, length, Bool, true, false, Ok, Err, refl, subst, arith, append_assoc}
use Rattle.java_tokens.specs.declared.token.Keyword.TheVariants as w
use Rattle.java_tokens.specs.declared.token.Operator.TheVariants as o
use Rattle.java_tokens.specs.declared.token.TokenKind.{TokenKind}
use Rattle.java_tokens.specs.declared.token.TokenKind.TheVariants as k
use Rattle.token_reading.specs.declared.name.Ident.{Ident}
use Rattle.token_reading.specs.Height.{highest}
use Rattle.token_reading.specs.Lexeme.{Lexeme, lexeme, Then, same_operator, sees}
use Rattle.token_reading.specs.Outcome.{too_high, Parser}
use Rattle.token_reading.specs.ReadType.{none_fits}
use Rattle.token_reading.proofs.Lexemes.{sees_it, expect_it}
use Rattle.token_reading.proofs.Tests.{below, not_below, from_below, from_not_below}
use Rattle.spec_trees.specs.declared.contract.NumberTree.{NumberTree}
use Rattle.spec_trees.specs.declared.link.LinkTree.{LinkTree}
use Rattle.spec_trees.specs.declared.operator.PrefixOp.{PrefixOp}
use Rattle.spec_trees.specs.declared.operator.PrefixOp.TheVariants as prefix
use Rattle.spec_trees.specs.declared.operator.Quantifier.{Quantifier}
use Rattle.spec_trees.specs.declared.operator.Quantifier.TheVariants as quantifier
use Rattle.spec_trees.specs.declared.operator.TermOp.{TermOp}
use Rattle.spec_trees.specs.declared.term.TermTree.{TermTree, out-TermTree, roll-TermTree}
use Rattle.spec_trees.specs.declared.term.TermTree.TheOpen.{TermTree-F}
use Rattle.spec_trees.specs.declared.term.TermTree.TheVariants as t
use Rattle.spec_trees.specs.declared.term.TermTree.TheVariants.{rolls-Number, rolls-Bool, rolls-Null, rolls-This, rolls-Answer, rolls-Name, rolls-Call, rolls-Old, rolls-Paren, rolls-Image, rolls-Prefix, rolls-Binary, rolls-Quantified}
use Rattle.spec_trees.specs.declared.term.TermTree.TheViews.{roll-out-TermTree}
use Rattle.spec_trees.specs.declared.word.ContractWord.TheVariants as word
use Rattle.spec_trees.specs.Links.{LinkWithin}
use Rattle.spec_trees.specs.Terms.{TermLayer, IsNumber, truth_word, prefix_sign, quantifier_word, term_sign, op_level, left_level, right_level, prefix_level, operand_level, term_level, MoreTerms, Terms, TermNode, TermWithin}
use Rattle.spec_trees.specs.Words.{word_kind, IsName}
use Rattle.spec_trees.specs.Height.{link_height, term_height}
use Rattle.spec_trees.proofs.TermHeights.{term_number, term_bool, term_null, term_this, term_answer, term_name, term_call, term_old, term_paren, term_image, term_prefix as prefix_height, term_binary, term_quantified}
use Rattle.spec_trees.proofs.WordLemmas.{word_read}
use Rattle.spec_reading.specs.declared.term_infix.TermInfix.{TermInfix}
use Rattle.spec_reading.specs.declared.term_infix.TermInfix.TheVariants as i
use Rattle.spec_reading.specs.ReadLink.{TallLink, read_link}
use Rattle.spec_reading.specs.ReadTerm.{TallTerm, term_infix, term_binds, term_follows, op_end, prefix_end, sees_variable, more_terms, terms, called, closed, old, term_parens, term_operand, range, quantified, term_prefix_by, term_prefix, term_operated, image, term_behind, term_climb, term_precedence, read_term}
use Rattle.spec_reading.proofs.Claims.{Found, found, over, found_then}
use Rattle.spec_reading.proofs.LinkFound.{finds_links, name_read}
use Rattle.spec_reading.proofs.LinkLevels.{link_follows_most}
use Rattle.spec_reading.proofs.LinkTrees.{link_length}
use Rattle.spec_reading.proofs.TermBegins.{term_opens, no_variable}
use Rattle.spec_reading.proofs.TermLevels.{term_after, op_range, prefix_range, term_ends, term_joins, term_hangs, term_sign_read, term_looser}
use Rattle.spec_reading.proofs.TermTrees.{term_positive, term_length, more_length, term_at_most, term_has_level}

-- A term of height n or less that is written is found, or it is higher than the budget.
abbrev pub FindsTerms : ℕ → Type 0
FindsTerms n = (b : ℕ) (e : TermTree) (l : ℕ) (xs rest : List Lexeme) → TermWithin n e l xs rest → 1 ≤ l → l ≤ 11 → term_follows rest < l
    → Found n b (term_height e) (read_term b l xs) (Ok ((e, term_height e), rest))

-- Reading with a budget of one more than b comes to the term e as a left operand, or e is higher than that.
data Goes (n b l : ℕ) (e : TermTree) (xs rest : List Lexeme) : Type 0 where
  goes : (fuel : ℕ) → term_height e ≤ suc b → suc b < fuel + term_height e
      → read_term (suc b) l xs ≡ term_climb b (read_term b) (read_link b 4) l fuel (e, term_height e) rest → Goes n b l e xs rest
  higher : suc b < n → read_term (suc b) l xs ≡ Err too_high → Goes n b l e xs rest

-- the same of one that begins with a token of its own
abbrev Begins : ℕ → ℕ → ℕ → TermTree → List Lexeme → List Lexeme → Type 0
Begins n b l e xs rest = Found (suc n) (suc b) (term_height e) (term_prefix (read_term b) l xs) (Ok ((e, term_height e), rest))

-- a part that is found
abbrev Part : ℕ → ℕ → ℕ → TermTree → List Lexeme → List Lexeme → Type 0
Part n b l e xs rest = Found n b (term_height e) (read_term b l xs) (Ok ((e, term_height e), rest))

from_prefix : (n b l : ℕ) (e : TermTree) (xs rest : List Lexeme) → Begins n b l e xs rest → Goes (suc n) b l e xs rest
unfolding read_term term_precedence
from_prefix n b l e xs rest (found low is) = goes (suc b) low (omega (arith, term_positive e)) (rw is refl)
from_prefix n b l e xs rest (over high is) = higher high (rw is refl)

-- ---- leaves

number_found : (n b l : ℕ) (x : NumberTree) (xs rest : List Lexeme) → IsNumber x xs rest → Begins n b l (t.Number x) xs rest
unfolding term_prefix
number_found n b l x xs rest is = rw (is, term_number x) (found (omega arith) refl)

bool_found : (n b l at : ℕ) (v : Bool) (xs rest : List Lexeme) → xs ≡ lexeme at (k.Word (truth_word v)) ∷ rest → Begins n b l (t.Bool at v) xs rest
unfolding term_prefix
bool_found n b l at true xs rest is = rw (is, term_bool at true) (found (omega arith) refl)
bool_found n b l at false xs rest is = rw (is, term_bool at false) (found (omega arith) refl)

null_found : (n b l at : ℕ) (xs rest : List Lexeme) → xs ≡ lexeme at (k.Word w.Null) ∷ rest → Begins n b l (t.Null at) xs rest
unfolding term_prefix
null_found n b l at xs rest is = rw (is, term_null at) (found (omega arith) refl)

this_found : (n b l at : ℕ) (xs rest : List Lexeme) → xs ≡ lexeme at (k.Word w.This) ∷ rest → Begins n b l (t.This at) xs rest
unfolding term_prefix
this_found n b l at xs rest is = rw (is, term_this at) (found (omega arith) refl)

answer_found : (n b l at : ℕ) (xs rest : List Lexeme) → xs ≡ lexeme at (word_kind word.Answer) ∷ rest → Begins n b l (t.Answer at) xs rest
unfolding term_prefix
answer_found n b l at xs rest is = rw (is, word_read word.Answer, term_answer at) (found (omega arith) refl)

-- ---- names and calls

name_found : (n b l : ℕ) (x : Ident) (xs rest : List Lexeme) → IsName x xs rest → sees o.LeftParen rest ≡ false → Begins n b l (t.Name x) xs rest
unfolding term_prefix called
name_found n b l x xs rest is other = rw (is.0, is.1, other, term_name x) (found (omega arith) refl)

call_found : (n b l : ℕ) (x : Ident) (given : List TermTree) (xs ys zs rest : List Lexeme) → IsName x xs ys → Then (k.Op o.LeftParen) ys zs
    → Found n b (highest (map term_height given)) (terms (read_term b) zs) (Ok ((given, highest (map term_height given)), rest))
    → Begins n b l (t.Call x given) xs rest
unfolding term_prefix called
call_found n b l x given xs ys zs rest is u s =
    rw (is.0, is.1, u.1, sees_it o.LeftParen u.0 zs, term_call x given)
    (found_then _ s (λ h. omega arith) (λ low. found (omega arith) refl))

-- ---- parentheses

closed_found : (n b : ℕ) (a : TermTree) (xs ys rest : List Lexeme) → Part n b 1 a xs ys → Then (k.Op o.RightParen) ys rest
    → Found n b (term_height a) (closed (read_term b) xs) (Ok ((a, term_height a), rest))
unfolding closed
closed_found n b a xs ys rest s u =
    found_then _ s (λ h. h) (λ low. rw (u.1, expect_it o.RightParen u.0 rest) (found low refl))

paren_found : (n b l at : ℕ) (a : TermTree) (xs ys zs rest : List Lexeme) → xs ≡ lexeme at (k.Op o.LeftParen) ∷ ys
    → Part n b 1 a ys zs → Then (k.Op o.RightParen) zs rest → Begins n b l (t.Paren at a) xs rest
unfolding term_prefix term_parens
paren_found n b l at a xs ys zs rest is s u =
    rw (is, term_paren at a)
    (found_then _ (closed_found n b a ys zs rest s u) (λ h. omega arith) (λ low. found (omega arith) refl))

old_found : (n b l at : ℕ) (a : TermTree) (xs ys zs us rest : List Lexeme) → xs ≡ lexeme at (word_kind word.Old) ∷ ys
    → Then (k.Op o.LeftParen) ys zs → Part n b 1 a zs us → Then (k.Op o.RightParen) us rest → Begins n b l (t.Old at a) xs rest
unfolding term_prefix old
old_found n b l at a xs ys zs us rest is v s u =
    rw (is, word_read word.Old, v.1, expect_it o.LeftParen v.0 zs, term_old at a)
    (found_then _ (closed_found n b a zs us rest s u) (λ h. omega arith) (λ low. found (omega arith) refl))

-- ---- operators before an operand

-- an operator's token is read as that operator, where no variable of a quantifier stands after it
prefix_read : (part : ℕ → Parser TallTerm) (l at : ℕ) (p : PrefixOp) (ys : List Lexeme) → sees_variable ys ≡ false
    → term_prefix_by part l at (prefix_sign p) ys ≡ term_operand part l at p ys
prefix_read part l at prefix.Negate ys none = refl
prefix_read part l at prefix.Count ys none = refl
prefix_read part l at prefix.Not ys none = refl
prefix_read part l at prefix.Exists ys none = rw (word_read word.Exists, none) refl
prefix_read part l at prefix.No ys none = rw (word_read word.No, none) refl
prefix_read part l at prefix.One ys none = rw (word_read word.One) refl
prefix_read part l at prefix.Lone ys none = rw (word_read word.Lone) refl

operand_found : (n b l at : ℕ) (p : PrefixOp) (a : TermTree) (xs ys rest : List Lexeme) → xs ≡ lexeme at (prefix_sign p) ∷ ys
    → sees_variable ys ≡ false → l ≤ prefix_level p → term_follows rest ≤ prefix_end p → Part n b (operand_level p) a ys rest
    → Begins n b l (t.Prefix at p a) xs rest
unfolding term_prefix term_operand
operand_found n b l at p a xs ys rest is none lv stop s =
    rw (is, prefix_read (read_term b) l at p ys none, not_below (prefix_level p) l lv, prefix_height at p a)
    (found_then _ s (λ h. omega arith)
    (λ low. rw (not_below (prefix_end p) (term_follows rest) stop) (found (omega arith) refl)))

-- ---- quantifiers

range_found : (n b : ℕ) (a : TermTree) (xs ys zs rest : List Lexeme) → Then (k.Op o.Colon) xs ys → Part n b 7 a ys zs
    → Then (k.Op o.Or) zs rest → Found n b (term_height a) (range (read_term b) xs) (Ok ((a, term_height a), rest))
unfolding range
range_found n b a xs ys zs rest u s v =
    rw (u.1, expect_it o.Colon u.0 ys)
    (found_then _ s (λ h. h) (λ low. rw (v.1, expect_it o.Or v.0 rest) (found low refl)))

-- a quantifier's word is read as that quantifier, where a variable stands after it
quantifier_read : (part : ℕ → Parser TallTerm) (l at : ℕ) (q : Quantifier) (ys : List Lexeme) → sees_variable ys ≡ true
    → term_prefix_by part l at (word_kind (quantifier_word q)) ys ≡ quantified part l at q ys
quantifier_read part l at quantifier.All ys some = rw (word_read word.All) refl
quantifier_read part l at quantifier.Exists ys some = rw (word_read word.Exists, some) refl
quantifier_read part l at quantifier.No ys some = rw (word_read word.No, some) refl
quantifier_read part l at quantifier.Sum ys some = rw (word_read word.Sum) refl

-- a name and a `:` are a variable
is_variable : (x : Ident) (xs ys zs : List Lexeme) → IsName x xs ys → Then (k.Op o.Colon) ys zs → sees_variable xs ≡ true
is_variable x xs ys zs is u = rw (is.0, u.1) (sees_it o.Colon u.0 zs)

quantified_found : (n b l at : ℕ) (q : Quantifier) (x : Ident) (a c : TermTree) (xs ys zs us vs ws rest : List Lexeme)
    → xs ≡ lexeme at (word_kind (quantifier_word q)) ∷ ys → IsName x ys zs → Then (k.Op o.Colon) zs us → Part n b 7 a us vs
    → Then (k.Op o.Or) vs ws → Part n b 1 c ws rest → l ≤ 1 → Begins n b l (t.Quantified at q x a c) xs rest
unfolding term_prefix quantified
quantified_found n b l at q x a c xs ys zs us vs ws rest is named u s v s' one =
    rw (
      is,
      quantifier_read (read_term b) l at q ys (is_variable x ys zs us named u),
      not_below 1 l one,
      name_read x ys zs named,
      term_quantified at q x a c,
    )
    (found_then _ (range_found n b a zs us vs ws u s v) (λ h. omega arith)
    (λ low. found_then _ s' (λ h. omega arith) (λ low'. found (omega arith) refl)))

-- ---- what begins with an operand

turned : (n b l : ℕ) (a new : TermTree) (kd : TokenKind) (j : TermInfix) (xs ys zs rest : List Lexeme) → term_infix kd ≡ j → l ≤ term_binds j
    → term_height a ≤ n → term_height a < term_height new → (fuel : ℕ) → term_height a ≤ suc b → suc b < fuel + term_height a
    → read_term (suc b) l xs ≡ term_climb b (read_term b) (read_link b 4) l fuel (a, term_height a) ys → Then kd ys zs
    → (term_height a ≤ b
    → Found (suc n) (suc b) (term_height new) (term_behind (read_term b) (read_link b 4) (a, term_height a) j zs) (Ok ((new, term_height new), rest)))
    → (lower : Bool) → nat_lt (term_height a) (suc b) ≡ lower → Goes (suc n) b l new xs rest
unfolding term_climb
turned n b l a new kd j xs ys zs rest kind lv ha more zero low enough is u go lower test = absurd (omega arith)
turned n b l a new kd j xs ys zs rest kind lv ha more (suc fuel) low enough is u go false test =
    higher (let none = from_not_below (term_height a) (suc b) test in omega arith)
    (is ∙ rw (u.1, kind, not_below (term_binds j) l lv, test) refl)
turned n b l a new kd j xs ys zs rest kind lv ha more (suc fuel) low enough is u go true test =
    let lower = from_below (term_height a) (suc b) test in
    elim (go (omega arith)) [
      | found low' is' ↦ goes fuel low' (omega arith) (is ∙ rw (u.1, kind, not_below (term_binds j) l lv, test, is') refl)
      | over high is' ↦ higher high (is ∙ rw (u.1, kind, not_below (term_binds j) l lv, test, is') refl)
    ]

-- One more turn, by a token that binds as tightly as the level.
turn : (n b l : ℕ) (a new : TermTree) (kd : TokenKind) (j : TermInfix) (xs ys zs rest : List Lexeme) → term_infix kd ≡ j → l ≤ term_binds j
    → term_height a ≤ n → term_height a < term_height new → Goes n b l a xs ys → Then kd ys zs
    → (term_height a ≤ b
    → Found (suc n) (suc b) (term_height new) (term_behind (read_term b) (read_link b 4) (a, term_height a) j zs) (Ok ((new, term_height new), rest)))
    → Goes (suc n) b l new xs rest
turn n b l a new kd j xs ys zs rest kind lv ha more (goes fuel low enough is) u go =
    turned n b l a new kd j xs ys zs rest kind lv ha more fuel low enough is u go (nat_lt (term_height a) (suc b)) refl
turn n b l a new kd j xs ys zs rest kind lv ha more (higher high is) u go = higher (omega arith) is

operated_found : (n b : ℕ) (p : TermOp) (a c : TermTree) (zs rest : List Lexeme) → Part n b (right_level p) c zs rest
    → term_follows rest ≤ op_end p → term_height a ≤ b
    → Found (suc n) (suc b) (term_height (t.Binary p a c)) (term_operated (read_term b) (a, term_height a) p zs)
    (Ok ((t.Binary p a c, term_height (t.Binary p a c)), rest))
unfolding term_operated
operated_found n b p a c zs rest s stop low =
    rw (term_binary p a c) (found_then _ s (λ h. omega arith)
    (λ low'. rw (not_below (op_end p) (term_follows rest) stop) (found (omega arith) refl)))

binary_goes : (n b l : ℕ) (p : TermOp) (a c : TermTree) (xs ys zs rest : List Lexeme) → l ≤ op_level p → term_height a ≤ n
    → Goes n b l a xs ys → Then (term_sign p) ys zs → Part n b (right_level p) c zs rest → term_follows rest ≤ op_end p
    → Goes (suc n) b l (t.Binary p a c) xs rest
binary_goes n b l p a c xs ys zs rest lv ha left u s stop =
    turn n b l a (t.Binary p a c) (term_sign p) (i.Binary p) xs ys zs rest (term_sign_read p) lv ha (rw (term_binary p a c) (omega arith)) left u
    (operated_found n b p a c zs rest s stop)

image_found : (n b : ℕ) (a : TermTree) (r : LinkTree) (zs rest : List Lexeme)
    → Found n b (link_height r) (read_link b 4 zs) (Ok ((r, link_height r), rest)) → term_height a ≤ b
    → Found (suc n) (suc b) (term_height (t.Image a r)) (image (read_link b 4) (a, term_height a) zs)
    (Ok ((t.Image a r, term_height (t.Image a r)), rest))
unfolding image
image_found n b a r zs rest s low =
    rw (term_image a r) (found_then _ s (λ h. omega arith) (λ low'. found (omega arith) refl))

image_goes : (n b l : ℕ) (a : TermTree) (r : LinkTree) (xs ys zs rest : List Lexeme) → l ≤ 11 → term_height a ≤ n
    → Goes n b l a xs ys → Then (k.Op o.Dot) ys zs → Found n b (link_height r) (read_link b 4 zs) (Ok ((r, link_height r), rest))
    → Goes (suc n) b l (t.Image a r) xs rest
image_goes n b l a r xs ys zs rest lv ha left u s =
    turn n b l a (t.Image a r) (k.Op o.Dot) i.Dot xs ys zs rest refl lv ha (rw (term_image a r) (omega arith)) left u
    (image_found n b a r zs rest s)

-- ---- arguments

comma_ends : (at : ℕ) (xs : List Lexeme) → term_follows (lexeme at (k.Op o.Comma) ∷ xs) < 1
comma_ends at xs = omega arith

paren_ends : (at : ℕ) (xs : List Lexeme) → term_follows (lexeme at (k.Op o.RightParen) ∷ xs) < 1
paren_ends at xs = omega arith

paren_no_comma : (at : ℕ) (xs : List Lexeme) → sees o.Comma (lexeme at (k.Op o.RightParen) ∷ xs) ≡ false
unfolding same_operator
paren_no_comma at xs = refl

max_zero : (h : ℕ) → max h 0 ≡ h
max_zero h = omega arith

max_first : (h : ℕ) → max 0 h ≡ h
max_first h = omega arith

max_swap : (h a m : ℕ) → max (max h a) m ≡ max h (max a m)
max_swap h a m = omega arith

more_found : (n b : ℕ) → FindsTerms n → (more : List TermTree) (fuel : ℕ) (done : List TermTree) (high : ℕ) (a : TermTree) (xs ys rest : List Lexeme)
    → high ≤ b → length more < fuel → TermWithin n a 1 xs ys → MoreTerms (TermWithin n) more ys rest
    → Found n b (max high (highest (map term_height (a ∷ more)))) (more_terms (read_term b) fuel done high xs)
    (Ok ((done ++ a ∷ more, max high (highest (map term_height (a ∷ more)))), rest))
unfolding more_terms
more_found n b finds more zero done high a xs ys rest hb room w ws = absurd (omega arith)
more_found n b finds [] (suc fuel) done high a xs ys rest hb room w ws =
    found_then _ (finds b a 1 xs ys w (omega arith) (omega arith) (rw ws.1 (paren_ends ws.0 rest))) (λ h. h)
    (λ low. rw (ws.1, paren_no_comma ws.0 rest, expect_it o.RightParen ws.0 rest) (rw (max_zero (term_height a)) (found (omega arith) refl)))
more_found n b finds (c ∷ more) (suc fuel) done high a xs ys rest hb room w ws =
    found_then _ (finds b a 1 xs ys w (omega arith) (omega arith) (rw ws.1.1 (comma_ends ws.1.0 ws.0))) (λ h. h)
    (λ low. rw (ws.1.1, sees_it o.Comma ws.1.0 ws.0)
    (let s = more_found n b finds more fuel (done ++ a ∷ []) (max high (term_height a)) c ws.0 ws.2 rest (omega arith) (omega arith) ws.3 ws.4 in
    rw (append_assoc, max_swap high (term_height a) (highest (map term_height (c ∷ more)))) at s))

terms_found : (n b : ℕ) → FindsTerms n → (given : List TermTree) (xs rest : List Lexeme) → Terms (TermWithin n) given xs rest
    → Found n b (highest (map term_height given)) (terms (read_term b) xs) (Ok ((given, highest (map term_height given)), rest))
unfolding terms
terms_found n b finds [] xs rest u = rw (u.1, sees_it o.RightParen u.0 rest) (found (omega arith) refl)
terms_found n b finds (a ∷ more) xs rest w =
    let s = more_found n b finds more (length xs) [] 0 a xs w.0 rest (omega arith)
    (omega (arith, term_length n a 1 xs w.0 w.1, more_length (TermWithin n) (LinkWithin n) (term_length n) (link_length n) more w.0 rest w.2)) w.1 w.2 in
    rw (term_opens n a 1 xs w.0 w.1).0 (rw (max_first (highest (map term_height (a ∷ more)))) at s)

-- ---- any term

-- a term of height n or less that is written becomes a left operand, or it is higher than the budget
abbrev Comes : ℕ → Type 0
Comes n = (b : ℕ) (e : TermTree) (l : ℕ) (xs rest : List Lexeme) → TermWithin n e l xs rest → (least : ℕ) → least ≤ l
    → term_follows rest ≤ term_after (out-TermTree e) → Goes n b least e xs rest

climb_stops : (b : ℕ) (part : ℕ → Parser TallTerm) (link : Parser TallLink) (l fuel : ℕ) (left : TallTerm) (rest : List Lexeme)
    → term_follows rest < l → term_climb b part link l fuel left rest ≡ Ok (left, rest)
unfolding term_climb
climb_stops b part link l zero left rest h = rw (below (term_follows rest) l h) refl
climb_stops b part link l (suc fuel) left rest h = rw (below (term_follows rest) l h) refl

finish : (n b l : ℕ) (e : TermTree) (xs rest : List Lexeme) → term_follows rest < l → Goes n b l e xs rest
    → Found n (suc b) (term_height e) (read_term (suc b) l xs) (Ok ((e, term_height e), rest))
finish n b l e xs rest stop (goes fuel low enough is) =
    found low (is ∙ climb_stops b (read_term b) (read_link b 4) l fuel (e, term_height e) rest stop)
finish n b l e xs rest stop (higher high is) = over high is

no_budget : (l : ℕ) (xs : List Lexeme) → 0 < length xs → read_term 0 l xs ≡ Err too_high
unfolding read_term none_fits
no_budget l [] h = absurd (omega arith)
no_budget l (x ∷ xs) h = refl

finds : (n : ℕ) → Comes n → FindsTerms n
finds n comes zero e l xs rest w one high stop =
    over (omega (arith, term_positive e, term_at_most n e l xs rest w)) (no_budget l xs (omega (arith, term_length n e l xs rest w)))
finds n comes (suc b) e l xs rest w one high stop =
    finish n b l e xs rest stop
    (comes b e l xs rest w l (omega arith) (term_ends (out-TermTree e) l (term_follows rest) (term_has_level n e l xs rest w) stop))

module _ (n b : ℕ) (comes : Comes n) where
  whole : (e : TermTree) (l : ℕ) (xs rest : List Lexeme) → TermWithin n e l xs rest → 1 ≤ l → l ≤ 11 → term_follows rest < l
      → Part n b l e xs rest
  whole = finds n comes b

  -- a part before a `)`
  inner : (e : TermTree) (xs ys rest : List Lexeme) → TermWithin n e 1 xs ys → Then (k.Op o.RightParen) ys rest → Part n b 1 e xs ys
  inner e xs ys rest w u = whole e 1 xs ys w (omega arith) (omega arith) (rw u.1 (paren_ends u.0 rest))

  prefix_goes : (at : ℕ) (p : PrefixOp) (a : TermTree) (l : ℕ) (xs ys rest : List Lexeme) → xs ≡ lexeme at (prefix_sign p) ∷ ys
      → l ≤ prefix_level p → term_follows rest ≤ prefix_end p → TermWithin n a (operand_level p) ys rest
      → Goes (suc n) b l (t.Prefix at p a) xs rest
  prefix_goes at p a l xs ys rest is lv stop w =
      from_prefix n b l (t.Prefix at p a) xs rest
      (operand_found n b l at p a xs ys rest is
      (no_variable n a (operand_level p) ys rest (omega (arith, (prefix_range p).end_low, (prefix_range p).high)) w) lv stop
      (whole a (operand_level p) ys rest w (omega (arith, (prefix_range p).operand_low)) (omega (arith, (prefix_range p).operand_high))
      (omega (arith, (prefix_range p).end))))

  node_goes : (f : TermLayer) (l : ℕ) (xs rest : List Lexeme) → l ≤ term_level f → term_follows rest ≤ term_after f
      → TermNode (TermWithin n) (LinkWithin n) f xs rest → Goes (suc n) b l (roll-TermTree f) xs rest
  node_goes (TermTree-F.Number x) l xs rest lv stop w =
      rw (rolls-Number x) (from_prefix n b l (t.Number x) xs rest (number_found n b l x xs rest w))
  node_goes (TermTree-F.Bool at v) l xs rest lv stop w =
      rw (rolls-Bool at v) (from_prefix n b l (t.Bool at v) xs rest (bool_found n b l at v xs rest w))
  node_goes (TermTree-F.Null at) l xs rest lv stop w =
      rw (rolls-Null at) (from_prefix n b l (t.Null at) xs rest (null_found n b l at xs rest w))
  node_goes (TermTree-F.This at) l xs rest lv stop w =
      rw (rolls-This at) (from_prefix n b l (t.This at) xs rest (this_found n b l at xs rest w))
  node_goes (TermTree-F.Answer at) l xs rest lv stop w =
      rw (rolls-Answer at) (from_prefix n b l (t.Answer at) xs rest (answer_found n b l at xs rest w))
  node_goes (TermTree-F.Name x) l xs rest lv stop w =
      rw (rolls-Name x) (from_prefix n b l (t.Name x) xs rest
      (name_found n b l x xs rest w (term_looser o.LeftParen rest (omega arith))))
  node_goes (TermTree-F.Call x given) l xs rest lv stop w =
      rw (rolls-Call x given) (from_prefix n b l (t.Call x given) xs rest
      (call_found n b l x given xs w.0 w.2 rest w.1 w.3 (terms_found n b (finds n comes) given w.2 rest w.4)))
  node_goes (TermTree-F.Old at a) l xs rest lv stop w =
      rw (rolls-Old at a) (from_prefix n b l (t.Old at a) xs rest
      (old_found n b l at a xs w.0 w.2 w.4 rest w.1 w.3 (inner a w.2 w.4 rest w.5 w.6) w.6))
  node_goes (TermTree-F.Paren at a) l xs rest lv stop w =
      rw (rolls-Paren at a) (from_prefix n b l (t.Paren at a) xs rest
      (paren_found n b l at a xs w.0 w.2 rest w.1 (inner a w.0 w.2 rest w.3 w.4) w.4))
  node_goes (TermTree-F.Image a r) l xs rest lv stop w =
      rw (rolls-Image a r) (image_goes n b l a r xs w.0 w.2 rest lv (term_at_most n a 11 xs w.0 w.1)
      (comes b a 11 xs w.0 w.1 l lv (rw w.3.1 (term_hangs (out-TermTree a) (term_has_level n a 11 xs w.0 w.1)))) w.3
      (finds_links n b r 4 w.2 rest w.4 (omega arith) (omega arith) (omega (arith, link_follows_most rest))))
  node_goes (TermTree-F.Prefix at p a) l xs rest lv stop w =
      rw (rolls-Prefix at p a) (prefix_goes at p a l xs w.0 rest w.1 lv stop w.2)
  node_goes (TermTree-F.Binary p a c) l xs rest lv stop w =
      rw (rolls-Binary p a c) (binary_goes n b l p a c xs w.0 w.2 rest lv (term_at_most n a (left_level p) xs w.0 w.1)
      (comes b a (left_level p) xs w.0 w.1 l (omega (arith, (op_range p).left))
      (rw (w.3.1, term_sign_read p) (term_joins (out-TermTree a) p (term_has_level n a (left_level p) xs w.0 w.1))))
      w.3
      (whole c (right_level p) w.2 rest w.4 (omega (arith, (op_range p).right_low)) (omega (arith, (op_range p).right_high))
      (omega (arith, (op_range p).end)))
      stop)
  node_goes (TermTree-F.Quantified at q x a c) l xs rest lv stop w =
      rw (rolls-Quantified at q x a c) (from_prefix n b l (t.Quantified at q x a c) xs rest
      (quantified_found n b l at q x a c xs w.0 w.2 w.4 w.6 w.8 rest w.1 w.3 w.5
      (whole a 7 w.4 w.6 w.7 (omega arith) (omega arith) (rw w.9.1 (omega arith))) w.9
      (whole c 1 w.8 rest w.10 (omega arith) (omega arith) (omega arith)) lv))

comes : (n : ℕ) → Comes n
unfolding TermWithin
comes zero b e l xs rest w least low stop = absurd w
comes (suc n) b e l xs rest w least low stop =
    subst (λ (e' : TermTree). Goes (suc n) b least e' xs rest) (roll-out-TermTree e)
    (node_goes n b (comes n) (out-TermTree e) least xs rest (omega (arith, w.0)) stop w.1)

-- a term that is written is found, or it is higher than the budget
pub every_term : (n : ℕ) → FindsTerms n
every_term n = finds n (comes n)
