-- A relation that is written is read.
use Rattle.std.proofs.Common.{◌≡◌, ◌∙◌, ℕ, zero, suc, ◌+◌, ◌≤◌, ◌<◌, nat_lt, List, [], ◌∷◌, length, Bool, true, false, Ok, Err, refl, subst, arith}
use Rattle.java_tokens.specs.declared.token.Operator.TheVariants as o
use Rattle.java_tokens.specs.declared.token.TokenKind.TheVariants as k
use Rattle.token_reading.specs.declared.name.Ident.{Ident}
use Rattle.token_reading.specs.Lexeme.{Lexeme, lexeme, Then}
use Rattle.token_reading.specs.Outcome.{too_high, Parser}
use Rattle.token_reading.specs.ReadType.{none_fits}
use Rattle.token_reading.proofs.Lexemes.{expect_it, ident_read}
use Rattle.token_reading.proofs.Tests.{below, not_below, from_below, from_not_below}
use Rattle.spec_trees.specs.declared.link.LinkTree.{LinkTree, out-LinkTree, roll-LinkTree}
use Rattle.spec_trees.specs.declared.link.LinkTree.TheOpen.{LinkTree-F}
use Rattle.spec_trees.specs.declared.link.LinkTree.TheVariants as r
use Rattle.spec_trees.specs.declared.link.LinkTree.TheVariants.{rolls-Field, rolls-Path, rolls-Paren, rolls-Binary}
use Rattle.spec_trees.specs.declared.link.LinkTree.TheViews.{roll-out-LinkTree}
use Rattle.spec_trees.specs.declared.operator.LinkOp.{LinkOp}
use Rattle.spec_trees.specs.declared.operator.PathOp.{PathOp}
use Rattle.spec_trees.specs.declared.operator.PathOp.TheVariants as path
use Rattle.spec_trees.specs.Links.{LinkLayer, path_sign, link_sign, link_op_level, link_level, LinkNode, LinkWithin}
use Rattle.spec_trees.specs.Words.{IsName}
use Rattle.spec_trees.specs.Height.{link_height}
use Rattle.spec_trees.proofs.LinkHeights.{link_field, link_path, link_paren, link_binary}
use Rattle.spec_reading.specs.ReadLink.{TallLink, name, link_follows, path_of, link_parens, link_prefix_operator, link_prefix, link_operated, link_climb, link_precedence, read_link}
use Rattle.spec_reading.proofs.Claims.{Found, found, over, found_then}
use Rattle.spec_reading.proofs.LinkLevels.{link_after, link_op_range, link_ends, link_joins, link_sign_read}
use Rattle.spec_reading.proofs.LinkTrees.{link_positive, link_length, link_at_most, link_has_level}

pub name_read : (x : Ident) (xs rest : List Lexeme) → IsName x xs rest → name xs ≡ Ok (x, rest)
unfolding name
name_read x xs rest w = rw (ident_read x xs rest w.0, w.1) refl

-- A relation of height n or less that is written is found, or it is higher than the budget.
abbrev pub FindsLinks : ℕ → Type 0
FindsLinks n = (b : ℕ) (e : LinkTree) (l : ℕ) (xs rest : List Lexeme) → LinkWithin n e l xs rest → 1 ≤ l → l ≤ 4 → link_follows rest < l
    → Found n b (link_height e) (read_link b l xs) (Ok ((e, link_height e), rest))

-- Reading with a budget of one more than b comes to the relation e as a left operand, or e is higher than that.
data Goes (n b l : ℕ) (e : LinkTree) (xs rest : List Lexeme) : Type 0 where
  goes : (fuel : ℕ) → link_height e ≤ suc b → suc b < fuel + link_height e
      → read_link (suc b) l xs ≡ link_climb b (read_link b) l fuel (e, link_height e) rest → Goes n b l e xs rest
  higher : suc b < n → read_link (suc b) l xs ≡ Err too_high → Goes n b l e xs rest

-- the same of one that begins with a token of its own
abbrev Begins : ℕ → ℕ → LinkTree → List Lexeme → List Lexeme → Type 0
Begins n b e xs rest = Found (suc n) (suc b) (link_height e) (link_prefix (read_link b) xs) (Ok ((e, link_height e), rest))

from_prefix : (n b l : ℕ) (e : LinkTree) (xs rest : List Lexeme) → Begins n b e xs rest → Goes (suc n) b l e xs rest
unfolding read_link link_precedence
from_prefix n b l e xs rest (found low is) = goes (suc b) low (omega (arith, link_positive e)) (rw is refl)
from_prefix n b l e xs rest (over high is) = higher high (rw is refl)

-- ---- what begins with a token of its own

field_found : (n b : ℕ) (x : Ident) (xs rest : List Lexeme) → IsName x xs rest → Begins n b (r.Field x) xs rest
unfolding link_prefix
field_found n b x xs rest w = rw (w.0, w.1, link_field x) (found (omega arith) refl)

path_read : (part : ℕ → Parser TallLink) (at : ℕ) (p : PathOp) (ys : List Lexeme)
    → link_prefix_operator part at (path_sign p) ys ≡ path_of part at p ys
path_read part at path.Paths ys = refl
path_read part at _ ys = refl

path_found : (n b at : ℕ) (p : PathOp) (a : LinkTree) (xs ys rest : List Lexeme) → xs ≡ lexeme at (k.Op (path_sign p)) ∷ ys
    → Found n b (link_height a) (read_link b 4 ys) (Ok ((a, link_height a), rest)) → Begins n b (r.Path at p a) xs rest
unfolding link_prefix path_of
path_found n b at p a xs ys rest is s =
    rw (is, path_read (read_link b) at p ys, link_path at p a)
    (found_then _ s (λ h. omega arith) (λ low. found (omega arith) refl))

paren_found : (n b at : ℕ) (a : LinkTree) (xs ys zs rest : List Lexeme) → xs ≡ lexeme at (k.Op o.LeftParen) ∷ ys
    → Found n b (link_height a) (read_link b 1 ys) (Ok ((a, link_height a), zs)) → Then (k.Op o.RightParen) zs rest
    → Begins n b (r.Paren at a) xs rest
unfolding link_prefix link_parens
paren_found n b at a xs ys zs rest is s t =
    rw (is, link_paren at a)
    (found_then _ s (λ h. omega arith) (λ low. rw (t.1, expect_it o.RightParen t.0 rest) (found (omega arith) refl)))

-- ---- what begins with an operand

turned : (n b l : ℕ) (a new : LinkTree) (p : LinkOp) (xs ys zs rest : List Lexeme) → l ≤ link_op_level p → link_height a ≤ n
    → link_height a < link_height new → (fuel : ℕ) → link_height a ≤ suc b → suc b < fuel + link_height a
    → read_link (suc b) l xs ≡ link_climb b (read_link b) l fuel (a, link_height a) ys → Then (k.Op (link_sign p)) ys zs
    → (link_height a ≤ b → Found (suc n) (suc b) (link_height new) (link_operated (read_link b) (a, link_height a) p zs) (Ok ((new, link_height new), rest)))
    → (lower : Bool) → nat_lt (link_height a) (suc b) ≡ lower → Goes (suc n) b l new xs rest
unfolding link_climb
turned n b l a new p xs ys zs rest lv ha more zero low enough is t go lower test = absurd (omega arith)
turned n b l a new p xs ys zs rest lv ha more (suc fuel) low enough is t go false test =
    higher (let none = from_not_below (link_height a) (suc b) test in omega arith)
    (is ∙ rw (t.1, link_sign_read p, not_below (link_op_level p) l lv, test) refl)
turned n b l a new p xs ys zs rest lv ha more (suc fuel) low enough is t go true test =
    let yes_ = from_below (link_height a) (suc b) test in
    elim (go (omega arith)) [
      | found low' is' ↦
          goes fuel low' (omega arith) (is ∙ rw (t.1, link_sign_read p, not_below (link_op_level p) l lv, test, is') refl)
      | over high is' ↦ higher high (is ∙ rw (t.1, link_sign_read p, not_below (link_op_level p) l lv, test, is') refl)
    ]

-- One more turn, by an operator that binds as tightly as the level.
turn : (n b l : ℕ) (a new : LinkTree) (p : LinkOp) (xs ys zs rest : List Lexeme) → l ≤ link_op_level p → link_height a ≤ n
    → link_height a < link_height new → Goes n b l a xs ys → Then (k.Op (link_sign p)) ys zs
    → (link_height a ≤ b → Found (suc n) (suc b) (link_height new) (link_operated (read_link b) (a, link_height a) p zs) (Ok ((new, link_height new), rest)))
    → Goes (suc n) b l new xs rest
turn n b l a new p xs ys zs rest lv ha more (goes fuel low enough is) t go =
    turned n b l a new p xs ys zs rest lv ha more fuel low enough is t go (nat_lt (link_height a) (suc b)) refl
turn n b l a new p xs ys zs rest lv ha more (higher high is) t go = higher (omega arith) is

operated_found : (n b : ℕ) (p : LinkOp) (a c : LinkTree) (zs rest : List Lexeme)
    → Found n b (link_height c) (read_link b (link_op_level p + 1) zs) (Ok ((c, link_height c), rest)) → link_height a ≤ b
    → Found (suc n) (suc b) (link_height (r.Binary p a c)) (link_operated (read_link b) (a, link_height a) p zs)
    (Ok ((r.Binary p a c, link_height (r.Binary p a c)), rest))
unfolding link_operated
operated_found n b p a c zs rest s low =
    rw (link_binary p a c) (found_then _ s (λ h. omega arith) (λ low'. found (omega arith) refl))

binary_goes : (n b l : ℕ) (p : LinkOp) (a c : LinkTree) (xs ys zs rest : List Lexeme) → l ≤ link_op_level p → link_height a ≤ n
    → Goes n b l a xs ys → Then (k.Op (link_sign p)) ys zs
    → Found n b (link_height c) (read_link b (link_op_level p + 1) zs) (Ok ((c, link_height c), rest))
    → Goes (suc n) b l (r.Binary p a c) xs rest
binary_goes n b l p a c xs ys zs rest lv ha left t s =
    turn n b l a (r.Binary p a c) p xs ys zs rest lv ha (rw (link_binary p a c) (omega arith)) left t
    (operated_found n b p a c zs rest s)

-- ---- any relation

-- a relation of height n or less that is written becomes a left operand, or it is higher than the budget
abbrev Comes : ℕ → Type 0
Comes n = (b : ℕ) (e : LinkTree) (l : ℕ) (xs rest : List Lexeme) → LinkWithin n e l xs rest → (least : ℕ) → least ≤ l
    → link_follows rest ≤ link_after (out-LinkTree e) → Goes n b least e xs rest

climb_stops : (b : ℕ) (part : ℕ → Parser TallLink) (l fuel : ℕ) (left : TallLink) (rest : List Lexeme) → link_follows rest < l
    → link_climb b part l fuel left rest ≡ Ok (left, rest)
unfolding link_climb
climb_stops b part l zero left rest h = rw (below (link_follows rest) l h) refl
climb_stops b part l (suc fuel) left rest h = rw (below (link_follows rest) l h) refl

finish : (n b l : ℕ) (e : LinkTree) (xs rest : List Lexeme) → link_follows rest < l → Goes n b l e xs rest
    → Found n (suc b) (link_height e) (read_link (suc b) l xs) (Ok ((e, link_height e), rest))
finish n b l e xs rest stop (goes fuel low enough is) =
    found low (is ∙ climb_stops b (read_link b) l fuel (e, link_height e) rest stop)
finish n b l e xs rest stop (higher high is) = over high is

no_budget : (l : ℕ) (xs : List Lexeme) → 0 < length xs → read_link 0 l xs ≡ Err too_high
unfolding read_link none_fits
no_budget l [] h = absurd (omega arith)
no_budget l (x ∷ xs) h = refl

finds : (n : ℕ) → Comes n → FindsLinks n
finds n comes zero e l xs rest w one high stop =
    over (omega (arith, link_positive e, link_at_most n e l xs rest w)) (no_budget l xs (omega (arith, link_length n e l xs rest w)))
finds n comes (suc b) e l xs rest w one high stop =
    finish n b l e xs rest stop
    (comes b e l xs rest w l (omega arith) (link_ends (out-LinkTree e) l (link_follows rest) (link_has_level n e l xs rest w) stop))

node_goes : (n b : ℕ) → Comes n → (f : LinkLayer) (l : ℕ) (xs rest : List Lexeme) → l ≤ link_level f
    → link_follows rest ≤ link_after f → LinkNode (LinkWithin n) f xs rest → Goes (suc n) b l (roll-LinkTree f) xs rest
node_goes n b comes (LinkTree-F.Field x) l xs rest lv stop w =
    rw (rolls-Field x) (from_prefix n b l (r.Field x) xs rest (field_found n b x xs rest w))
node_goes n b comes (LinkTree-F.Path at p a) l xs rest lv stop w =
    rw (rolls-Path at p a) (from_prefix n b l (r.Path at p a) xs rest
    (path_found n b at p a xs w.0 rest w.1 (finds n comes b a 4 w.0 rest w.2 (omega arith) (omega arith) (omega arith))))
node_goes n b comes (LinkTree-F.Paren at a) l xs rest lv stop w =
    rw (rolls-Paren at a) (from_prefix n b l (r.Paren at a) xs rest
    (paren_found n b at a xs w.0 w.2 rest w.1 (finds n comes b a 1 w.0 w.2 w.3 (omega arith) (omega arith) (rw w.4.1 (omega arith))) w.4))
node_goes n b comes (LinkTree-F.Binary p a c) l xs rest lv stop w =
    rw (rolls-Binary p a c) (binary_goes n b l p a c xs w.0 w.2 rest lv (link_at_most n a (link_op_level p) xs w.0 w.1)
    (comes b a (link_op_level p) xs w.0 w.1 l lv
    (rw (w.3.1, link_sign_read p)
    (link_joins (out-LinkTree a) (link_op_level p) (link_has_level n a (link_op_level p) xs w.0 w.1) (link_op_range p).1)))
    w.3
    (finds n comes b c (link_op_level p + 1) w.2 rest w.4 (omega arith) (omega (arith, (link_op_range p).1)) (omega arith)))

comes : (n : ℕ) → Comes n
unfolding LinkWithin
comes zero b e l xs rest w least low stop = absurd w
comes (suc n) b e l xs rest w least low stop =
    subst (λ (t : LinkTree). Goes (suc n) b least t xs rest) (roll-out-LinkTree e)
    (node_goes n b (comes n) (out-LinkTree e) least xs rest (omega (arith, w.0)) stop w.1)

-- a relation that is written is found, or it is higher than the budget
pub finds_links : (n : ℕ) → FindsLinks n
finds_links n = finds n (comes n)
