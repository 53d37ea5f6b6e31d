-- The height of a term is the least number with which it is written, it is written with each greater one, and it takes
-- a token.
use Rattle.std.proofs.Common.{◌≡◌, ℕ, zero, suc, ◌+◌, ◌≤◌, ◌<◌, max, List, [], ◌∷◌, map, length, arith, ap, subst, sym}
use Rattle.token_reading.specs.Height.{highest}
use Rattle.token_reading.specs.Lexeme.{Lexeme}
use Rattle.token_reading.proofs.Lexemes.{then_length}
use Rattle.spec_trees.specs.declared.link.LinkTree.{LinkTree}
use Rattle.spec_trees.specs.declared.term.TermTree.{TermTree, out-TermTree, roll-TermTree}
use Rattle.spec_trees.specs.declared.term.TermTree.TheOpen.{TermTree-F}
use Rattle.spec_trees.specs.declared.term.TermTree.TheViews.{out-roll-TermTree, roll-out-TermTree}
use Rattle.spec_trees.specs.declared.term.TermTree.TheFolds.{fold-roll-TermTree}
use Rattle.spec_trees.specs.Links.{LinkWithin}
use Rattle.spec_trees.specs.Terms.{TermLayer, term_level, MoreTerms, Terms, TermNode, TermWithin}
use Rattle.spec_trees.specs.Height.{link_height, term_layer_height, term_height}
use Rattle.spec_reading.proofs.LinkTrees.{link_length, link_at_most, link_fitting}

-- the height of a node, by those of its parts
abbrev height_by : TermLayer → ℕ
height_by (TermTree-F.Call x given) = highest (map term_height given) + 1
height_by (TermTree-F.Old at a) = term_height a + 1
height_by (TermTree-F.Paren at a) = term_height a + 1
height_by (TermTree-F.Image a r) = max (term_height a) (link_height r) + 1
height_by (TermTree-F.Prefix at p a) = term_height a + 1
height_by (TermTree-F.Binary p a c) = max (term_height a) (term_height c) + 1
height_by (TermTree-F.Quantified at q x a c) = max (term_height a) (term_height c) + 1
height_by _ = 1

height_is : (f : TermLayer) → term_height (roll-TermTree f) ≡ height_by f
height_is (TermTree-F.Number x) = fold-roll-TermTree ℕ term_layer_height (TermTree-F.Number x)
height_is (TermTree-F.Bool at b) = fold-roll-TermTree ℕ term_layer_height (TermTree-F.Bool at b)
height_is (TermTree-F.Null at) = fold-roll-TermTree ℕ term_layer_height (TermTree-F.Null at)
height_is (TermTree-F.This at) = fold-roll-TermTree ℕ term_layer_height (TermTree-F.This at)
height_is (TermTree-F.Answer at) = fold-roll-TermTree ℕ term_layer_height (TermTree-F.Answer at)
height_is (TermTree-F.Name x) = fold-roll-TermTree ℕ term_layer_height (TermTree-F.Name x)
height_is (TermTree-F.Call x given) = fold-roll-TermTree ℕ term_layer_height (TermTree-F.Call x given)
height_is (TermTree-F.Old at a) = fold-roll-TermTree ℕ term_layer_height (TermTree-F.Old at a)
height_is (TermTree-F.Paren at a) = fold-roll-TermTree ℕ term_layer_height (TermTree-F.Paren at a)
height_is (TermTree-F.Image a r) = fold-roll-TermTree ℕ term_layer_height (TermTree-F.Image a r)
height_is (TermTree-F.Prefix at p a) = fold-roll-TermTree ℕ term_layer_height (TermTree-F.Prefix at p a)
height_is (TermTree-F.Binary p a c) = fold-roll-TermTree ℕ term_layer_height (TermTree-F.Binary p a c)
height_is (TermTree-F.Quantified at q x a c) = fold-roll-TermTree ℕ term_layer_height (TermTree-F.Quantified at q x a c)

as_layer : (e : TermTree) → term_height e ≡ height_by (out-TermTree e)
as_layer e = subst (λ (t : TermTree). term_height t ≡ height_by (out-TermTree e)) (roll-out-TermTree e) (height_is (out-TermTree e))

height_positive : (f : TermLayer) → 0 < height_by f
height_positive (TermTree-F.Number x) = omega arith
height_positive _ = omega arith

pub term_positive : (e : TermTree) → 0 < term_height e
term_positive e = omega (arith, as_layer e, height_positive (out-TermTree e))

-- ---- lengths

module _ (Part : TermTree → ℕ → List Lexeme → List Lexeme → Type 0) (Link : LinkTree → ℕ → List Lexeme → List Lexeme → Type 0)
    (shorter : (e : TermTree) (l : ℕ) (xs rest : List Lexeme) → Part e l xs rest → length rest < length xs)
    (link_shorter : (r : LinkTree) (l : ℕ) (xs rest : List Lexeme) → Link r l xs rest → length rest < length xs) where
  pub more_length : (given : List TermTree) (xs rest : List Lexeme) → MoreTerms Part given xs rest → length given + length rest < length xs
  more_length [] xs rest t = omega (arith, then_length _ xs rest t)
  more_length (a ∷ more) xs rest w =
      omega (arith, then_length _ xs w.0 w.1, shorter a 1 w.0 w.2 w.3, more_length more w.2 rest w.4)

  pub terms_length : (given : List TermTree) (xs rest : List Lexeme) → Terms Part given xs rest → length given + length rest < length xs
  terms_length [] xs rest t = omega (arith, then_length _ xs rest t)
  terms_length (a ∷ more) xs rest w = omega (arith, shorter a 1 xs w.0 w.1, more_length more w.0 rest w.2)

  node_length : (f : TermLayer) (xs rest : List Lexeme) → TermNode Part Link f xs rest → length rest < length xs
  node_length (TermTree-F.Number x) xs rest w = omega (arith, ap length w)
  node_length (TermTree-F.Bool at b) xs rest w = omega (arith, ap length w)
  node_length (TermTree-F.Null at) xs rest w = omega (arith, ap length w)
  node_length (TermTree-F.This at) xs rest w = omega (arith, ap length w)
  node_length (TermTree-F.Answer at) xs rest w = omega (arith, ap length w)
  node_length (TermTree-F.Name x) xs rest w = omega (arith, ap length w.0)
  node_length (TermTree-F.Call x given) xs rest w =
      omega (arith, ap length w.1.0, then_length _ w.0 w.2 w.3, terms_length given w.2 rest w.4)
  node_length (TermTree-F.Old at a) xs rest w =
      omega (arith, ap length w.1, then_length _ w.0 w.2 w.3, shorter a 1 w.2 w.4 w.5, then_length _ w.4 rest w.6)
  node_length (TermTree-F.Paren at a) xs rest w = omega (arith, ap length w.1, shorter a 1 w.0 w.2 w.3, then_length _ w.2 rest w.4)
  node_length (TermTree-F.Image a r) xs rest w =
      omega (arith, shorter a 11 xs w.0 w.1, then_length _ w.0 w.2 w.3, link_shorter r 4 w.2 rest w.4)
  node_length (TermTree-F.Prefix at p a) xs rest w = omega (arith, ap length w.1, shorter a _ w.0 rest w.2)
  node_length (TermTree-F.Binary p a c) xs rest w =
      omega (arith, shorter a _ xs w.0 w.1, then_length _ w.0 w.2 w.3, shorter c _ w.2 rest w.4)
  node_length (TermTree-F.Quantified at q x a c) xs rest w =
      omega (
        arith,
        ap length w.1,
        ap length w.3.0,
        then_length _ w.2 w.4 w.5,
        shorter a 7 w.4 w.6 w.7,
        then_length _ w.6 w.8 w.9,
        shorter c 1 w.8 rest w.10,
      )

pub term_length : (n : ℕ) (e : TermTree) (l : ℕ) (xs rest : List Lexeme) → TermWithin n e l xs rest → length rest < length xs
unfolding TermWithin
term_length zero e l xs rest w = absurd w
term_length (suc n) e l xs rest w =
    node_length (TermWithin n) (LinkWithin n) (term_length n) (link_length n) (out-TermTree e) xs rest w.1

-- ---- no lower than its height

module _ (n : ℕ) (Part : TermTree → ℕ → List Lexeme → List Lexeme → Type 0) (Link : LinkTree → ℕ → List Lexeme → List Lexeme → Type 0)
    (low : (e : TermTree) (l : ℕ) (xs rest : List Lexeme) → Part e l xs rest → term_height e ≤ n)
    (link_low : (r : LinkTree) (l : ℕ) (xs rest : List Lexeme) → Link r l xs rest → link_height r ≤ n) where
  more_low : (given : List TermTree) (xs rest : List Lexeme) → MoreTerms Part given xs rest → highest (map term_height given) ≤ n
  more_low [] xs rest w = omega arith
  more_low (a ∷ more) xs rest w = omega (arith, low a 1 w.0 w.2 w.3, more_low more w.2 rest w.4)

  terms_low : (given : List TermTree) (xs rest : List Lexeme) → Terms Part given xs rest → highest (map term_height given) ≤ n
  terms_low [] xs rest w = omega arith
  terms_low (a ∷ more) xs rest w = omega (arith, low a 1 xs w.0 w.1, more_low more w.0 rest w.2)

  node_low : (f : TermLayer) (xs rest : List Lexeme) → TermNode Part Link f xs rest → height_by f ≤ n + 1
  node_low (TermTree-F.Call x given) xs rest w = omega (arith, terms_low given w.2 rest w.4)
  node_low (TermTree-F.Old at a) xs rest w = omega (arith, low a 1 w.2 w.4 w.5)
  node_low (TermTree-F.Paren at a) xs rest w = omega (arith, low a 1 w.0 w.2 w.3)
  node_low (TermTree-F.Image a r) xs rest w = omega (arith, low a 11 xs w.0 w.1, link_low r 4 w.2 rest w.4)
  node_low (TermTree-F.Prefix at p a) xs rest w = omega (arith, low a _ w.0 rest w.2)
  node_low (TermTree-F.Binary p a c) xs rest w = omega (arith, low a _ xs w.0 w.1, low c _ w.2 rest w.4)
  node_low (TermTree-F.Quantified at q x a c) xs rest w = omega (arith, low a 7 w.4 w.6 w.7, low c 1 w.8 rest w.10)
  node_low _ xs rest w = omega arith

pub term_at_most : (n : ℕ) (e : TermTree) (l : ℕ) (xs rest : List Lexeme) → TermWithin n e l xs rest → term_height e ≤ n
unfolding TermWithin
term_at_most zero e l xs rest w = absurd w
term_at_most (suc n) e l xs rest w =
    omega (arith, as_layer e, node_low n (TermWithin n) (LinkWithin n) (term_at_most n) (link_at_most n) (out-TermTree e) xs rest w.1)

-- ---- with each number that is no less than its height

module _ (n : ℕ) (Part Part' : TermTree → ℕ → List Lexeme → List Lexeme → Type 0)
    (Link Link' : LinkTree → ℕ → List Lexeme → List Lexeme → Type 0)
    (fits : (e : TermTree) (l : ℕ) (xs rest : List Lexeme) → term_height e ≤ n → Part e l xs rest → Part' e l xs rest)
    (link_fits : (r : LinkTree) (l : ℕ) (xs rest : List Lexeme) → link_height r ≤ n → Link r l xs rest → Link' r l xs rest) where
  more_fit : (given : List TermTree) (xs rest : List Lexeme) → highest (map term_height given) ≤ n → MoreTerms Part given xs rest
      → MoreTerms Part' given xs rest
  more_fit [] xs rest low w = w
  more_fit (a ∷ more) xs rest low w = (w.0, w.1, w.2, fits a 1 w.0 w.2 (omega arith) w.3, more_fit more w.2 rest (omega arith) w.4)

  terms_fit : (given : List TermTree) (xs rest : List Lexeme) → highest (map term_height given) ≤ n → Terms Part given xs rest
      → Terms Part' given xs rest
  terms_fit [] xs rest low w = w
  terms_fit (a ∷ more) xs rest low w = (w.0, fits a 1 xs w.0 (omega arith) w.1, more_fit more w.0 rest (omega arith) w.2)

  node_fit : (f : TermLayer) (xs rest : List Lexeme) → height_by f ≤ n + 1 → TermNode Part Link f xs rest → TermNode Part' Link' f xs rest
  node_fit (TermTree-F.Number x) xs rest low w = w
  node_fit (TermTree-F.Bool at b) xs rest low w = w
  node_fit (TermTree-F.Null at) xs rest low w = w
  node_fit (TermTree-F.This at) xs rest low w = w
  node_fit (TermTree-F.Answer at) xs rest low w = w
  node_fit (TermTree-F.Name x) xs rest low w = w
  node_fit (TermTree-F.Call x given) xs rest low w = (w.0, w.1, w.2, w.3, terms_fit given w.2 rest (omega arith) w.4)
  node_fit (TermTree-F.Old at a) xs rest low w = (w.0, w.1, w.2, w.3, w.4, fits a 1 w.2 w.4 (omega arith) w.5, w.6)
  node_fit (TermTree-F.Paren at a) xs rest low w = (w.0, w.1, w.2, fits a 1 w.0 w.2 (omega arith) w.3, w.4)
  node_fit (TermTree-F.Image a r) xs rest low w =
      (w.0, fits a 11 xs w.0 (omega arith) w.1, w.2, w.3, link_fits r 4 w.2 rest (omega arith) w.4)
  node_fit (TermTree-F.Prefix at p a) xs rest low w = (w.0, w.1, fits a _ w.0 rest (omega arith) w.2)
  node_fit (TermTree-F.Binary p a c) xs rest low w =
      (w.0, fits a _ xs w.0 (omega arith) w.1, w.2, w.3, fits c _ w.2 rest (omega arith) w.4)
  node_fit (TermTree-F.Quantified at q x a c) xs rest low w =
      (w.0, w.1, w.2, w.3, w.4, w.5, w.6, fits a 7 w.4 w.6 (omega arith) w.7, w.8, w.9, fits c 1 w.8 rest (omega arith) w.10)

pub term_fitting : (n m : ℕ) (e : TermTree) (l : ℕ) (xs rest : List Lexeme) → term_height e ≤ m → TermWithin n e l xs rest
    → TermWithin m e l xs rest
unfolding TermWithin
term_fitting zero m e l xs rest low w = absurd w
term_fitting (suc n) zero e l xs rest low w = absurd (omega (arith, term_positive e))
term_fitting (suc n) (suc m) e l xs rest low w = (
  w.0,
  node_fit m (TermWithin n) (TermWithin m) (LinkWithin n) (LinkWithin m) (term_fitting n m) (link_fitting n m) (out-TermTree e) xs rest
      (omega (arith, as_layer e)) w.1,
)

pub term_grown : (n m : ℕ) → n ≤ m → (e : TermTree) (l : ℕ) (xs rest : List Lexeme) → TermWithin n e l xs rest → TermWithin m e l xs rest
term_grown n m up e l xs rest w = term_fitting n m e l xs rest (omega (arith, term_at_most n e l xs rest w)) w

-- ---- of each lower level

pub term_has_level : (n : ℕ) (e : TermTree) (l : ℕ) (xs rest : List Lexeme) → TermWithin n e l xs rest → l ≤ term_level (out-TermTree e)
unfolding TermWithin
term_has_level zero e l xs rest w = absurd w
term_has_level (suc n) e l xs rest w = w.0

pub term_leveled : (n : ℕ) (e : TermTree) (l m : ℕ) (xs rest : List Lexeme) → m ≤ term_level (out-TermTree e) → TermWithin n e l xs rest
    → TermWithin n e m xs rest
unfolding TermWithin
term_leveled zero e l m xs rest low w = absurd w
term_leveled (suc n) e l m xs rest low w = (low, w.1)

-- ---- arguments, with parts of another height

module _ (Part Part' : TermTree → ℕ → List Lexeme → List Lexeme → Type 0)
    (up : (e : TermTree) (l : ℕ) (xs rest : List Lexeme) → Part e l xs rest → Part' e l xs rest) where
  pub more_map : (given : List TermTree) (xs rest : List Lexeme) → MoreTerms Part given xs rest → MoreTerms Part' given xs rest
  more_map [] xs rest w = w
  more_map (a ∷ more) xs rest w = (w.0, w.1, w.2, up a 1 w.0 w.2 w.3, more_map more w.2 rest w.4)

  pub terms_map : (given : List TermTree) (xs rest : List Lexeme) → Terms Part given xs rest → Terms Part' given xs rest
  terms_map [] xs rest w = w
  terms_map (a ∷ more) xs rest w = (w.0, up a 1 xs w.0 w.1, more_map more w.0 rest w.2)

-- ---- a node over terms of height n

made_layer : (n : ℕ) (f : TermLayer) (l : ℕ) (xs rest : List Lexeme) → l ≤ term_level f → TermNode (TermWithin n) (LinkWithin n) f xs rest
    → TermWithin (suc n) (roll-TermTree f) l xs rest
unfolding TermWithin
made_layer n f l xs rest low w =
    let P : TermLayer → Type 0 = λ g. (l ≤ term_level g) × TermNode (TermWithin n) (LinkWithin n) g xs rest in
    subst P (sym (out-roll-TermTree f)) (low, w)

pub term_made : (n h : ℕ) (f : TermLayer) (e : TermTree) (l : ℕ) (xs rest : List Lexeme) → n < h → roll-TermTree f ≡ e → l ≤ term_level f
    → TermNode (TermWithin n) (LinkWithin n) f xs rest → TermWithin h e l xs rest
term_made n h f e l xs rest up is low w =
    let P : TermTree → Type 0 = λ t. TermWithin h t l xs rest in
    subst P is (term_grown (suc n) h (omega arith) (roll-TermTree f) l xs rest (made_layer n f l xs rest low w))
