-- What no term begins with.
use Rattle.std.proofs.Common.{◌≡◌, ℕ, zero, suc, ◌≤◌, List, ◌∷◌, false, refl, arith}
use Rattle.java_tokens.specs.declared.token.Operator.TheVariants as o
use Rattle.token_reading.specs.Lexeme.{Lexeme, lexeme, same_operator, sees}
use Rattle.spec_trees.specs.declared.link.LinkTree.{LinkTree}
use Rattle.spec_trees.specs.declared.operator.PrefixOp.{PrefixOp}
use Rattle.spec_trees.specs.declared.operator.PrefixOp.TheVariants as prefix
use Rattle.spec_trees.specs.declared.term.TermTree.{TermTree, out-TermTree}
use Rattle.spec_trees.specs.declared.term.TermTree.TheOpen.{TermTree-F}
use Rattle.spec_trees.specs.Links.{LinkWithin}
use Rattle.spec_trees.specs.Terms.{TermLayer, prefix_sign, left_level, TermNode, TermWithin}
use Rattle.spec_reading.specs.ReadTerm.{term_follows, sees_variable}
use Rattle.spec_reading.proofs.TermLevels.{op_range, term_sign_read, term_looser}

-- neither a `)` nor a `:` comes first
abbrev pub Opens : List Lexeme → Type 0
Opens xs = (sees o.RightParen xs ≡ false) × (sees o.Colon xs ≡ false)

prefix_opens : (p : PrefixOp) (at : ℕ) (ys : List Lexeme) → Opens (lexeme at (prefix_sign p) ∷ ys)
unfolding same_operator
prefix_opens prefix.Negate at ys = (refl, refl)
prefix_opens _ at ys = (refl, refl)

node_opens : (Part : TermTree → ℕ → List Lexeme → List Lexeme → Type 0) (Link : LinkTree → ℕ → List Lexeme → List Lexeme → Type 0)
    → ((e : TermTree) (l : ℕ) (xs rest : List Lexeme) → Part e l xs rest → Opens xs)
    → (f : TermLayer) (xs rest : List Lexeme) → TermNode Part Link f xs rest → Opens xs
unfolding same_operator
node_opens Part Link ih (TermTree-F.Number x) xs rest w = rw w (refl, refl)
node_opens Part Link ih (TermTree-F.Bool at b) xs rest w = rw w (refl, refl)
node_opens Part Link ih (TermTree-F.Null at) xs rest w = rw w (refl, refl)
node_opens Part Link ih (TermTree-F.This at) xs rest w = rw w (refl, refl)
node_opens Part Link ih (TermTree-F.Answer at) xs rest w = rw w (refl, refl)
node_opens Part Link ih (TermTree-F.Name x) xs rest w = rw w.0 (refl, refl)
node_opens Part Link ih (TermTree-F.Call x given) xs rest w = rw w.1.0 (refl, refl)
node_opens Part Link ih (TermTree-F.Old at a) xs rest w = rw w.1 (refl, refl)
node_opens Part Link ih (TermTree-F.Paren at a) xs rest w = rw w.1 (refl, refl)
node_opens Part Link ih (TermTree-F.Image a r) xs rest w = ih a 11 xs w.0 w.1
node_opens Part Link ih (TermTree-F.Prefix at p a) xs rest w = rw w.1 (prefix_opens p at w.0)
node_opens Part Link ih (TermTree-F.Binary p a c) xs rest w = ih a (left_level p) xs w.0 w.1
node_opens Part Link ih (TermTree-F.Quantified at q x a c) xs rest w = rw w.1 (refl, refl)

pub term_opens : (n : ℕ) (e : TermTree) (l : ℕ) (xs rest : List Lexeme) → TermWithin n e l xs rest → Opens xs
unfolding TermWithin
term_opens zero e l xs rest w = absurd w
term_opens (suc n) e l xs rest w = node_opens (TermWithin n) (LinkWithin n) (term_opens n) (out-TermTree e) xs rest w.1

-- ---- a name and a `:`

prefix_variable : (p : PrefixOp) (at : ℕ) (ys : List Lexeme) → sees o.Colon ys ≡ false → sees_variable (lexeme at (prefix_sign p) ∷ ys) ≡ false
prefix_variable prefix.Negate at ys h = refl
prefix_variable prefix.Count at ys h = refl
prefix_variable prefix.Not at ys h = refl
prefix_variable _ at ys h = h

node_variable : (Part : TermTree → ℕ → List Lexeme → List Lexeme → Type 0) (Link : LinkTree → ℕ → List Lexeme → List Lexeme → Type 0)
    → ((e : TermTree) (l : ℕ) (xs rest : List Lexeme) → Part e l xs rest → Opens xs)
    → ((e : TermTree) (l : ℕ) (xs rest : List Lexeme) → term_follows rest ≤ 11 → Part e l xs rest → sees_variable xs ≡ false)
    → (f : TermLayer) (xs rest : List Lexeme) → term_follows rest ≤ 11 → TermNode Part Link f xs rest → sees_variable xs ≡ false
unfolding same_operator
node_variable Part Link opens ih (TermTree-F.Number x) xs rest h w = rw w refl
node_variable Part Link opens ih (TermTree-F.Bool at b) xs rest h w = rw w refl
node_variable Part Link opens ih (TermTree-F.Null at) xs rest h w = rw w refl
node_variable Part Link opens ih (TermTree-F.This at) xs rest h w = rw w refl
node_variable Part Link opens ih (TermTree-F.Answer at) xs rest h w = rw w (term_looser o.Colon rest (omega arith))
node_variable Part Link opens ih (TermTree-F.Name x) xs rest h w = rw w.0 (term_looser o.Colon rest (omega arith))
node_variable Part Link opens ih (TermTree-F.Call x given) xs rest h w = rw (w.1.0, w.3.1) refl
node_variable Part Link opens ih (TermTree-F.Old at a) xs rest h w = rw (w.1, w.3.1) refl
node_variable Part Link opens ih (TermTree-F.Paren at a) xs rest h w = rw w.1 refl
node_variable Part Link opens ih (TermTree-F.Image a r) xs rest h w = ih a 11 xs w.0 (rw w.3.1 (omega arith)) w.1
node_variable Part Link opens ih (TermTree-F.Prefix at p a) xs rest h w =
    rw w.1 (prefix_variable p at w.0 (opens a _ w.0 rest w.2).1)
node_variable Part Link opens ih (TermTree-F.Binary p a c) xs rest h w =
    ih a (left_level p) xs w.0 (rw (w.3.1, term_sign_read p) (omega (arith, (op_range p).high))) w.1
node_variable Part Link opens ih (TermTree-F.Quantified at q x a c) xs rest h w = rw (w.1, w.3.0) refl

-- No term that ends before a token other than `:` and `(` begins as the variable of a quantifier does.
pub no_variable : (n : ℕ) (e : TermTree) (l : ℕ) (xs rest : List Lexeme) → term_follows rest ≤ 11 → TermWithin n e l xs rest
    → sees_variable xs ≡ false
unfolding TermWithin
no_variable zero e l xs rest h w = absurd w
no_variable (suc n) e l xs rest h w =
    node_variable (TermWithin n) (LinkWithin n) (term_opens n) (no_variable n) (out-TermTree e) xs rest h w.1
