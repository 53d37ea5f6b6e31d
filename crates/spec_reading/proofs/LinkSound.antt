-- A relation that is read is written.
use Rattle.std.proofs.Common.{◌≡◌, ◌∙◌, ℕ, zero, suc, ◌+◌, ◌≤◌, ◌<◌, max, nat_lt, List, [], ◌∷◌, length, Option, Some, None, refl, sym, ap, subst, arith}
use Rattle.java_tokens.specs.declared.token.Operator.{Operator}
use Rattle.java_tokens.specs.declared.token.Operator.TheVariants as o
use Rattle.java_tokens.specs.declared.token.TokenKind.{TokenKind}
use Rattle.java_tokens.specs.declared.token.TokenKind.TheVariants as k
use Rattle.token_reading.specs.declared.name.Ident.{Ident}
use Rattle.token_reading.specs.Lexeme.{Lexeme, lexeme, Then}
use Rattle.token_reading.specs.Types.{IsIdent}
use Rattle.token_reading.specs.Outcome.{Outcome, Parser}
use Rattle.token_reading.specs.ReadType.{next, ident_at}
use Rattle.token_reading.proofs.Given.{Takes, op_gives, ident_gives, none_gives}
use Rattle.token_reading.proofs.Lexemes.{then_length}
use Rattle.token_reading.proofs.Steps.{Gives, gives, gives_none, gives_high, gives_then, gives_if}
use Rattle.token_reading.proofs.Tests.{from_below, from_not_below}
use Rattle.spec_trees.specs.declared.link.LinkTree.{LinkTree, out-LinkTree, roll-LinkTree}
use Rattle.spec_trees.specs.declared.link.LinkTree.TheOpen.{LinkTree-F}
use Rattle.spec_trees.specs.declared.link.LinkTree.TheVariants as r
use Rattle.spec_trees.specs.declared.link.LinkTree.TheVariants.{rolls-Field, rolls-Path, rolls-Paren, rolls-Binary}
use Rattle.spec_trees.specs.declared.link.LinkTree.TheViews.{out-roll-LinkTree}
use Rattle.spec_trees.specs.declared.operator.LinkOp.{LinkOp}
use Rattle.spec_trees.specs.declared.operator.PathOp.{PathOp}
use Rattle.spec_trees.specs.declared.operator.PathOp.TheVariants as path
use Rattle.spec_trees.specs.declared.word.ContractWord.{ContractWord}
use Rattle.spec_trees.specs.Links.{LinkLayer, path_sign, link_sign, link_op_level, link_level, LinkNode, LinkWithin}
use Rattle.spec_trees.specs.Words.{word_of, IsName}
use Rattle.spec_reading.specs.ReadLink.{TallLink, plain_name, name, link_op_at, link_binds, link_follows, field_by, path_of, link_parens, link_prefix_operator, link_prefix_by, link_prefix, link_operated, link_behind, link_climb, link_precedence, read_link}
use Rattle.spec_reading.proofs.LinkLevels.{link_after, link_op_range, link_lifts, link_follows_most, LinkLeads, link_leads}
use Rattle.spec_reading.proofs.LinkTrees.{link_grown, link_leveled, link_made}

-- ---- names

plain_gives : (x : Ident) (xs ys : List Lexeme) (w : Option ContractWord) → IsIdent x xs ys → word_of x.name ≡ w
    → Takes IsName xs ⊥ (plain_name x w ys)
plain_gives x xs ys None is free = gives x ys ((is, free), omega (arith, ap length is))
plain_gives x xs ys (Some w) is free = gives_none

pub name_gives : (xs : List Lexeme) → Takes IsName xs ⊥ (name xs)
unfolding name
name_gives xs = gives_then (ident_gives xs) (λ h. h) (λ x ys w. plain_gives x xs ys (word_of x.name) w.0 refl)

-- The relation t is written at the front of xs as one of level l, within the budget, and each level of it takes a token.
pub record WrittenLink (b l : ℕ) (xs : List Lexeme) (t : TallLink) (rest : List Lexeme) : Type 0 where
  pub tree : LinkWithin t.1 t.0 l xs rest
  pub low : t.1 ≤ b
  pub some : 0 < t.1
  pub taken : t.1 + length rest ≤ length xs
  pub stop : link_follows rest ≤ link_after (out-LinkTree t.0)

-- a whole relation of the level, or why there is none
abbrev pub LinkSound : ℕ → ℕ → List Lexeme → Outcome TallLink → Type 0
LinkSound b l xs = Gives (λ t rest. WrittenLink b l xs t rest × (link_follows rest < l)) (b < length xs)

-- a left operand, or why there is none
abbrev LinkLeft : ℕ → ℕ → List Lexeme → Outcome TallLink → Type 0
LinkLeft b l xs = Gives (λ t rest. WrittenLink b l xs t rest) (b < length xs)

-- a left operand higher than before
abbrev LinkHigher : ℕ → ℕ → List Lexeme → ℕ → Outcome TallLink → Type 0
LinkHigher b l xs h = Gives (λ t rest. WrittenLink b l xs t rest × (h < t.1)) (b < length xs)

wrote : (b n h : ℕ) (f : LinkLayer) (e : LinkTree) (l : ℕ) (xs rest : List Lexeme) → roll-LinkTree f ≡ e → n < h → h ≤ b
    → h + length rest ≤ length xs → l ≤ link_level f → link_follows rest ≤ link_after f → LinkNode (LinkWithin n) f xs rest
    → WrittenLink b l xs (e, h) rest
wrote b n h f e l xs rest is up low taken lv stop w = record {
  tree = link_made n h f e l xs rest up is lv w;
  low = low;
  some = omega arith;
  taken = taken;
  stop = let back : f ≡ out-LinkTree e = sym (out-roll-LinkTree f) ∙ ap out-LinkTree is in
      let P : LinkLayer → Type 0 = λ g. link_follows rest ≤ link_after g in subst P back stop;
}

-- `xs` begins with the token, and `ys` stands after it
module _ (b : ℕ) (part : ℕ → Parser TallLink) (sound : (l : ℕ) (xs : List Lexeme) → 1 ≤ l → l ≤ 4 → LinkSound b l xs (part l xs)) where
  field_left : (l : ℕ) (x : Ident) (w : Option ContractWord) (xs ys : List Lexeme) → l ≤ 4 → IsIdent x xs ys → word_of x.name ≡ w
      → LinkLeft (suc b) l xs (field_by x w ys)
  field_left l x None xs ys high is free =
      gives (r.Field x, 1) ys (wrote (suc b) 0 1 (LinkTree-F.Field x) (r.Field x) l xs ys (rolls-Field x) (omega arith) (omega arith)
      (omega (arith, ap length is)) high (link_follows_most ys) (is, free))
  field_left l x (Some w) xs ys high is free = gives_none

  path_left : (l at : ℕ) (p : PathOp) (xs ys : List Lexeme) → l ≤ 4 → xs ≡ lexeme at (k.Op (path_sign p)) ∷ ys
      → LinkLeft (suc b) l xs (path_of part at p ys)
  unfolding path_of
  path_left l at p xs ys high is =
      gives_then (sound 4 ys (omega arith) (omega arith)) (λ h. omega (arith, ap length is)) (λ a zs s.
      gives (r.Path at p a.0, a.1 + 1) zs (wrote (suc b) a.1 (a.1 + 1) (LinkTree-F.Path at p a.0) (r.Path at p a.0) l xs zs
      (rolls-Path at p a.0) (omega arith) (omega (arith, s.0.low)) (omega (arith, ap length is, s.0.taken)) high (link_follows_most zs)
      (ys, is, s.0.tree)))

  parens_left : (l at : ℕ) (xs ys : List Lexeme) → l ≤ 4 → xs ≡ lexeme at (k.Op o.LeftParen) ∷ ys
      → LinkLeft (suc b) l xs (link_parens part at ys)
  unfolding link_parens
  parens_left l at xs ys high is =
      gives_then (sound 1 ys (omega arith) (omega arith)) (λ h. omega (arith, ap length is)) (λ a zs s.
      gives_then (op_gives o.RightParen zs) (λ h. absurd h) (λ _ us t.
      gives (r.Paren at a.0, a.1 + 1) us (wrote (suc b) a.1 (a.1 + 1) (LinkTree-F.Paren at a.0) (r.Paren at a.0) l xs us
      (rolls-Paren at a.0) (omega arith) (omega (arith, s.0.low)) (omega (arith, ap length is, s.0.taken, t.1)) high
      (link_follows_most us) (ys, is, zs, s.0.tree, t.0))))

  operator_left : (l at : ℕ) (s : Operator) (xs ys : List Lexeme) → l ≤ 4 → xs ≡ lexeme at (k.Op s) ∷ ys
      → LinkLeft (suc b) l xs (link_prefix_operator part at s ys)
  operator_left l at o.Xor xs ys high is = path_left l at path.Paths xs ys high is
  operator_left l at o.Star xs ys high is = path_left l at path.PathsOrSame xs ys high is
  operator_left l at o.Tilde xs ys high is = path_left l at path.Converse xs ys high is
  operator_left l at o.LeftParen xs ys high is = parens_left l at xs ys high is
  operator_left l at _ xs ys high is = gives_none

  kind_left : (l at : ℕ) (kd : TokenKind) (xs ys : List Lexeme) → l ≤ 4 → xs ≡ lexeme at kd ∷ ys
      → LinkLeft (suc b) l xs (link_prefix_by part at kd ys)
  kind_left l at (k.Ident x) xs ys high is = field_left l (ident_at at x) (word_of x) xs ys high is refl
  kind_left l at (k.Op s) xs ys high is = operator_left l at s xs ys high is
  kind_left l at _ xs ys high is = gives_none

  prefix_left : (l : ℕ) (xs : List Lexeme) → l ≤ 4 → LinkLeft (suc b) l xs (link_prefix part xs)
  unfolding link_prefix
  prefix_left l [] high = gives_none
  prefix_left l (x ∷ xs) high = kind_left l x.at x.kind (x ∷ xs) xs high refl

  -- The operand `left` is written from xs to ys, and the token after it at ys.
  operated_left : (l : ℕ) (xs ys zs : List Lexeme) (left : TallLink) (p : LinkOp) → WrittenLink (suc b) l xs left ys → left.1 ≤ b
      → l ≤ link_op_level p → link_op_level p ≤ link_after (out-LinkTree left.0) → Then (k.Op (link_sign p)) ys zs
      → LinkHigher (suc b) l xs left.1 (link_operated part left p zs)
  unfolding link_operated
  operated_left l xs ys zs left p lw low lv hold t =
      gives_then (sound (link_op_level p + 1) zs (omega arith) (omega (arith, (link_op_range p).1)))
      (λ h. omega (arith, lw.taken, then_length _ ys zs t)) (λ a us s.
      let h = max left.1 a.1 in
      gives (r.Binary p left.0 a.0, h + 1) us (
        wrote (suc b) h (h + 1) (LinkTree-F.Binary p left.0 a.0) (r.Binary p left.0 a.0) l xs us
            (rolls-Binary p left.0 a.0) (omega arith) (omega (arith, s.0.low))
            (omega (arith, lw.taken, then_length _ ys zs t, s.0.taken)) lv (omega (arith, s.1)) (
              ys,
              link_grown left.1 h (omega arith) left.0 (link_op_level p) xs ys
                  (link_leveled left.1 left.0 l (link_op_level p) xs ys (link_lifts (out-LinkTree left.0) (link_op_level p) hold) lw.tree),
              zs,
              t,
              link_grown a.1 h (omega arith) a.0 (link_op_level p + 1) zs us s.0.tree,
            ),
        omega arith,
      ))

  behind_left : (l : ℕ) (xs ys zs : List Lexeme) (left : TallLink) (p : Option LinkOp) → WrittenLink (suc b) l xs left ys → left.1 ≤ b
      → l ≤ link_binds p → link_binds p ≤ link_after (out-LinkTree left.0) → LinkLeads p ys → zs ≡ next ys
      → LinkHigher (suc b) l xs left.1 (link_behind part left p zs)
  behind_left l xs ys zs left (Some p) lw low lv hold t is = operated_left l xs ys zs left p lw low lv hold (rw is t)
  behind_left l xs ys zs left None lw low lv hold t is = gives_none

  nonempty : (l : ℕ) → 1 ≤ l → (ys : List Lexeme) → l ≤ link_follows ys → 0 < length ys
  nonempty l one [] h = absurd (omega arith)
  nonempty l one (y ∷ ys) h = omega arith

  climb_sound : (l : ℕ) → 1 ≤ l → (xs : List Lexeme) (fuel : ℕ) (left : TallLink) (ys : List Lexeme) → WrittenLink (suc b) l xs left ys
      → suc b < fuel + left.1 → LinkSound (suc b) l xs (link_climb b part l fuel left ys)
  unfolding link_climb
  climb_sound l one xs zero left ys lw enough = absurd (omega (arith, lw.low))
  climb_sound l one xs (suc fuel) left ys lw enough =
      gives_if (nat_lt (link_follows ys) l) (λ s. gives left ys (lw, from_below (link_follows ys) l s))
      (λ s. gives_if (nat_lt left.1 (suc b))
      (λ f. gives_then (behind_left l xs ys (next ys) left (link_op_at ys) lw (let fit = from_below left.1 (suc b) f in omega arith)
      (from_not_below (link_follows ys) l s) lw.stop (link_leads ys) refl) (λ h. h)
      (λ new zs t. climb_sound l one xs fuel new zs t.0 (omega (arith, t.1))))
      (λ f. gives_high (omega (arith, from_not_below left.1 (suc b) f, lw.taken, nonempty l one ys (from_not_below (link_follows ys) l s)))))

  precedence_sound : (l : ℕ) → 1 ≤ l → l ≤ 4 → (xs : List Lexeme) → LinkSound (suc b) l xs (link_precedence b part l xs)
  unfolding link_precedence
  precedence_sound l one high xs =
      gives_then (prefix_left l xs high) (λ h. h) (λ left ys lw. climb_sound l one xs (suc b) left ys lw (omega (arith, lw.some)))

pub link_sound : (b l : ℕ) (xs : List Lexeme) → 1 ≤ l → l ≤ 4 → LinkSound b l xs (read_link b l xs)
unfolding read_link
link_sound zero l xs one high = none_gives xs
link_sound (suc b) l xs one high = precedence_sound b (read_link b) (link_sound b) l one high xs
