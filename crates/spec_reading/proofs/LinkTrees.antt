-- The height of a relation is the least number with which it is written, it is written with each greater one, and it
-- takes a token.
use Rattle.std.proofs.Common.{◌≡◌, ℕ, zero, suc, ◌+◌, ◌≤◌, ◌<◌, max, List, length, arith, ap, subst, sym}
use Rattle.token_reading.specs.Lexeme.{Lexeme}
use Rattle.token_reading.proofs.Lexemes.{then_length}
use Rattle.spec_trees.specs.declared.link.LinkTree.{LinkTree, out-LinkTree, roll-LinkTree}
use Rattle.spec_trees.specs.declared.link.LinkTree.TheOpen.{LinkTree-F}
use Rattle.spec_trees.specs.declared.link.LinkTree.TheViews.{out-roll-LinkTree, roll-out-LinkTree}
use Rattle.spec_trees.specs.declared.link.LinkTree.TheFolds.{fold-roll-LinkTree}
use Rattle.spec_trees.specs.Links.{LinkLayer, link_level, LinkNode, LinkWithin}
use Rattle.spec_trees.specs.Height.{link_layer_height, link_height}

-- the height of a node, by those of its parts
abbrev height_by : LinkLayer → ℕ
height_by (LinkTree-F.Field x) = 1
height_by (LinkTree-F.Path at p r) = link_height r + 1
height_by (LinkTree-F.Paren at r) = link_height r + 1
height_by (LinkTree-F.Binary p r s) = max (link_height r) (link_height s) + 1

height_is : (f : LinkLayer) → link_height (roll-LinkTree f) ≡ height_by f
height_is (LinkTree-F.Field x) = fold-roll-LinkTree ℕ link_layer_height (LinkTree-F.Field x)
height_is (LinkTree-F.Path at p r) = fold-roll-LinkTree ℕ link_layer_height (LinkTree-F.Path at p r)
height_is (LinkTree-F.Paren at r) = fold-roll-LinkTree ℕ link_layer_height (LinkTree-F.Paren at r)
height_is (LinkTree-F.Binary p r s) = fold-roll-LinkTree ℕ link_layer_height (LinkTree-F.Binary p r s)

as_layer : (r : LinkTree) → link_height r ≡ height_by (out-LinkTree r)
as_layer r = subst (λ (t : LinkTree). link_height t ≡ height_by (out-LinkTree r)) (roll-out-LinkTree r) (height_is (out-LinkTree r))

height_positive : (f : LinkLayer) → 0 < height_by f
height_positive (LinkTree-F.Field x) = omega arith
height_positive _ = omega arith

pub link_positive : (r : LinkTree) → 0 < link_height r
link_positive r = omega (arith, as_layer r, height_positive (out-LinkTree r))

-- ---- lengths

node_length : (Part : LinkTree → ℕ → List Lexeme → List Lexeme → Type 0)
    → ((r : LinkTree) (l : ℕ) (xs rest : List Lexeme) → Part r l xs rest → length rest < length xs)
    → (f : LinkLayer) (xs rest : List Lexeme) → LinkNode Part f xs rest → length rest < length xs
node_length Part shorter (LinkTree-F.Field x) xs rest w = omega (arith, ap length w.0)
node_length Part shorter (LinkTree-F.Path at p r) xs rest w = omega (arith, ap length w.1, shorter r 4 w.0 rest w.2)
node_length Part shorter (LinkTree-F.Paren at r) xs rest w =
    omega (arith, ap length w.1, shorter r 1 w.0 w.2 w.3, then_length _ w.2 rest w.4)
node_length Part shorter (LinkTree-F.Binary p r s) xs rest w =
    omega (arith, shorter r _ xs w.0 w.1, then_length _ w.0 w.2 w.3, shorter s _ w.2 rest w.4)

pub link_length : (n : ℕ) (r : LinkTree) (l : ℕ) (xs rest : List Lexeme) → LinkWithin n r l xs rest → length rest < length xs
unfolding LinkWithin
link_length zero r l xs rest w = absurd w
link_length (suc n) r l xs rest w = node_length (LinkWithin n) (link_length n) (out-LinkTree r) xs rest w.1

-- ---- no lower than its height

node_low : (n : ℕ) (Part : LinkTree → ℕ → List Lexeme → List Lexeme → Type 0)
    → ((r : LinkTree) (l : ℕ) (xs rest : List Lexeme) → Part r l xs rest → link_height r ≤ n)
    → (f : LinkLayer) (xs rest : List Lexeme) → LinkNode Part f xs rest → height_by f ≤ n + 1
node_low n Part low (LinkTree-F.Field x) xs rest w = omega arith
node_low n Part low (LinkTree-F.Path at p r) xs rest w = omega (arith, low r 4 w.0 rest w.2)
node_low n Part low (LinkTree-F.Paren at r) xs rest w = omega (arith, low r 1 w.0 w.2 w.3)
node_low n Part low (LinkTree-F.Binary p r s) xs rest w = omega (arith, low r _ xs w.0 w.1, low s _ w.2 rest w.4)

pub link_at_most : (n : ℕ) (r : LinkTree) (l : ℕ) (xs rest : List Lexeme) → LinkWithin n r l xs rest → link_height r ≤ n
unfolding LinkWithin
link_at_most zero r l xs rest w = absurd w
link_at_most (suc n) r l xs rest w =
    omega (arith, as_layer r, node_low n (LinkWithin n) (link_at_most n) (out-LinkTree r) xs rest w.1)

-- ---- with each number that is no less than its height

node_fit : (n : ℕ) (Part Part' : LinkTree → ℕ → List Lexeme → List Lexeme → Type 0)
    → ((r : LinkTree) (l : ℕ) (xs rest : List Lexeme) → link_height r ≤ n → Part r l xs rest → Part' r l xs rest)
    → (f : LinkLayer) (xs rest : List Lexeme) → height_by f ≤ n + 1 → LinkNode Part f xs rest → LinkNode Part' f xs rest
node_fit n Part Part' fits (LinkTree-F.Field x) xs rest low w = w
node_fit n Part Part' fits (LinkTree-F.Path at p r) xs rest low w = (w.0, w.1, fits r 4 w.0 rest (omega arith) w.2)
node_fit n Part Part' fits (LinkTree-F.Paren at r) xs rest low w = (w.0, w.1, w.2, fits r 1 w.0 w.2 (omega arith) w.3, w.4)
node_fit n Part Part' fits (LinkTree-F.Binary p r s) xs rest low w =
    (w.0, fits r _ xs w.0 (omega arith) w.1, w.2, w.3, fits s _ w.2 rest (omega arith) w.4)

pub link_fitting : (n m : ℕ) (r : LinkTree) (l : ℕ) (xs rest : List Lexeme) → link_height r ≤ m → LinkWithin n r l xs rest
    → LinkWithin m r l xs rest
unfolding LinkWithin
link_fitting zero m r l xs rest low w = absurd w
link_fitting (suc n) zero r l xs rest low w = absurd (omega (arith, link_positive r))
link_fitting (suc n) (suc m) r l xs rest low w =
    (w.0, node_fit m (LinkWithin n) (LinkWithin m) (link_fitting n m) (out-LinkTree r) xs rest (omega (arith, as_layer r)) w.1)

pub link_grown : (n m : ℕ) → n ≤ m → (r : LinkTree) (l : ℕ) (xs rest : List Lexeme) → LinkWithin n r l xs rest
    → LinkWithin m r l xs rest
link_grown n m up r l xs rest w = link_fitting n m r l xs rest (omega (arith, link_at_most n r l xs rest w)) w

-- ---- of each lower level

pub link_has_level : (n : ℕ) (r : LinkTree) (l : ℕ) (xs rest : List Lexeme) → LinkWithin n r l xs rest → l ≤ link_level (out-LinkTree r)
unfolding LinkWithin
link_has_level zero r l xs rest w = absurd w
link_has_level (suc n) r l xs rest w = w.0

pub link_leveled : (n : ℕ) (r : LinkTree) (l m : ℕ) (xs rest : List Lexeme) → m ≤ link_level (out-LinkTree r) → LinkWithin n r l xs rest
    → LinkWithin n r m xs rest
unfolding LinkWithin
link_leveled zero r l m xs rest low w = absurd w
link_leveled (suc n) r l m xs rest low w = (low, w.1)

-- ---- a node over relations of height n

made_layer : (n : ℕ) (f : LinkLayer) (l : ℕ) (xs rest : List Lexeme) → l ≤ link_level f → LinkNode (LinkWithin n) f xs rest
    → LinkWithin (suc n) (roll-LinkTree f) l xs rest
unfolding LinkWithin
made_layer n f l xs rest low w =
    let P : LinkLayer → Type 0 = λ g. (l ≤ link_level g) × LinkNode (LinkWithin n) g xs rest in
    subst P (sym (out-roll-LinkTree f)) (low, w)

pub link_made : (n h : ℕ) (f : LinkLayer) (r : LinkTree) (l : ℕ) (xs rest : List Lexeme) → n < h → roll-LinkTree f ≡ r → l ≤ link_level f
    → LinkNode (LinkWithin n) f xs rest → LinkWithin h r l xs rest
link_made n h f r l xs rest up is low w =
    let P : LinkTree → Type 0 = λ t. LinkWithin h t l xs rest in
    subst P is (link_grown (suc n) h (omega arith) (roll-LinkTree f) l xs rest (made_layer n f l xs rest low w))
