-- A term that is read is written.
use Rattle.std.proofs.Common.{◌≡◌, ◌∙◌, ℕ, zero, suc, ◌+◌, ◌≤◌, ◌<◌, max, nat_lt, List, [], ◌∷◌, ◌++◌, length, true, false, Option, Some, None, Ok, refl, sym, ap, subst, arith, append_assoc}
use Rattle.java_tokens.specs.declared.token.Keyword.{Keyword}
use Rattle.java_tokens.specs.declared.token.Keyword.TheVariants as w
use Rattle.java_tokens.specs.declared.token.Operator.{Operator}
use Rattle.java_tokens.specs.declared.token.Operator.TheVariants as o
use Rattle.java_tokens.specs.declared.token.TokenKind.{TokenKind}
use Rattle.java_tokens.specs.declared.token.TokenKind.TheVariants as k
use Rattle.token_reading.specs.declared.name.Ident.{Ident}
use Rattle.token_reading.specs.Lexeme.{Lexeme, lexeme, Then, sees}
use Rattle.token_reading.specs.Types.{IsIdent}
use Rattle.token_reading.specs.Outcome.{Outcome, Parser}
use Rattle.token_reading.specs.ReadType.{next, ident_at}
use Rattle.token_reading.proofs.Given.{op_gives, none_gives}
use Rattle.token_reading.proofs.Lexemes.{then_length, from_sees}
use Rattle.token_reading.proofs.Steps.{Gives, gives, gives_none, gives_high, gives_then, gives_map, gives_if}
use Rattle.token_reading.proofs.Tests.{from_below, from_not_below}
use Rattle.spec_trees.specs.declared.operator.PrefixOp.{PrefixOp}
use Rattle.spec_trees.specs.declared.operator.PrefixOp.TheVariants as prefix
use Rattle.spec_trees.specs.declared.operator.Quantifier.{Quantifier}
use Rattle.spec_trees.specs.declared.operator.Quantifier.TheVariants as quantifier
use Rattle.spec_trees.specs.declared.operator.TermOp.{TermOp}
use Rattle.spec_trees.specs.declared.term.TermTree.{TermTree, out-TermTree, roll-TermTree}
use Rattle.spec_trees.specs.declared.term.TermTree.TheOpen.{TermTree-F}
use Rattle.spec_trees.specs.declared.term.TermTree.TheVariants as t
use Rattle.spec_trees.specs.declared.term.TermTree.TheVariants.{rolls-Number, rolls-Bool, rolls-Null, rolls-This, rolls-Answer, rolls-Name, rolls-Call, rolls-Old, rolls-Paren, rolls-Image, rolls-Prefix, rolls-Binary, rolls-Quantified}
use Rattle.spec_trees.specs.declared.term.TermTree.TheViews.{out-roll-TermTree}
use Rattle.spec_trees.specs.declared.word.ContractWord.{ContractWord}
use Rattle.spec_trees.specs.declared.word.ContractWord.TheVariants as word
use Rattle.spec_trees.specs.Links.{LinkWithin}
use Rattle.spec_trees.specs.Terms.{TermLayer, prefix_sign, quantifier_word, term_sign, op_level, left_level, right_level, prefix_level, operand_level, term_level, MoreTerms, Terms, TermNode, TermWithin}
use Rattle.spec_trees.specs.Words.{word_kind, word_of, IsName}
use Rattle.spec_trees.proofs.WordLemmas.{word_spelled}
use Rattle.spec_reading.specs.declared.term_infix.TermInfix.{TermInfix}
use Rattle.spec_reading.specs.declared.term_infix.TermInfix.TheVariants as i
use Rattle.spec_reading.specs.ReadLink.{TallLink, read_link}
use Rattle.spec_reading.specs.ReadTerm.{TallTerm, TallTerms, term_binds, infix_at, term_follows, op_end, prefix_end, sees_variable, number_of, more_terms, terms, called, closed, old, term_parens, term_operand, range, quantified, word_prefix, name_prefix, operator_prefix, keyword_prefix, term_prefix_by, term_prefix, term_operated, image, term_behind, term_climb, term_precedence, read_term}
use Rattle.spec_reading.proofs.LinkSound.{LinkSound, link_sound, name_gives}
use Rattle.spec_reading.proofs.LinkTrees.{link_grown}
use Rattle.spec_reading.proofs.TermLevels.{term_after, op_range, prefix_range, term_lifts, term_hangs_on, term_follows_most, name_stop, TermLeads, term_leads}
use Rattle.spec_reading.proofs.TermTrees.{term_grown, term_leveled, term_made}

-- The term t is written at the front of xs as one of level l, within the budget, and each level of it takes a token.
pub record WrittenTerm (b l : ℕ) (xs : List Lexeme) (t : TallTerm) (rest : List Lexeme) : Type 0 where
  pub tree : TermWithin t.1 t.0 l xs rest
  pub low : t.1 ≤ b
  pub some : 0 < t.1
  pub taken : t.1 + length rest ≤ length xs
  pub stop : term_follows rest ≤ term_after (out-TermTree t.0)

-- a whole term of the level, or why there is none
abbrev pub TermSound : ℕ → ℕ → List Lexeme → Outcome TallTerm → Type 0
TermSound b l xs = Gives (λ t rest. WrittenTerm b l xs t rest × (term_follows rest < l)) (b < length xs)

-- a left operand, or why there is none
abbrev TermLeft : ℕ → ℕ → List Lexeme → Outcome TallTerm → Type 0
TermLeft b l xs = Gives (λ t rest. WrittenTerm b l xs t rest) (b < length xs)

-- a left operand higher than before
abbrev TermHigher : ℕ → ℕ → List Lexeme → ℕ → Outcome TallTerm → Type 0
TermHigher b l xs h = Gives (λ t rest. WrittenTerm b l xs t rest × (h < t.1)) (b < length xs)

-- arguments and the greatest of their heights
abbrev pub IsTerms : ℕ → List Lexeme → TallTerms → List Lexeme → Type 0
IsTerms b xs r rest = Terms (TermWithin r.1) r.0 xs rest × (r.1 ≤ b) × (r.1 + length rest < length xs)

abbrev TermsSound : ℕ → List Lexeme → Outcome TallTerms → Type 0
TermsSound b xs = Gives (λ r rest. IsTerms b xs r rest) (b < length xs)

-- arguments after those that were found, of which the highest has the height `high`
abbrev IsMore : ℕ → List TermTree → ℕ → List Lexeme → TallTerms → List Lexeme → Type 0
IsMore b found high xs r rest =
    (a : TermTree) × (more : List TermTree) × (r.0 ≡ found ++ a ∷ more)
    × (ys : List Lexeme) × TermWithin r.1 a 1 xs ys × MoreTerms (TermWithin r.1) more ys rest
    × (high ≤ r.1) × (r.1 ≤ b) × (r.1 + length rest < high + length xs)

wrote : (b n h : ℕ) (f : TermLayer) (e : TermTree) (l : ℕ) (xs rest : List Lexeme) → roll-TermTree f ≡ e → n < h → h ≤ b
    → h + length rest ≤ length xs → l ≤ term_level f → term_follows rest ≤ term_after f
    → TermNode (TermWithin n) (LinkWithin n) f xs rest → WrittenTerm b l xs (e, h) rest
wrote b n h f e l xs rest is up low taken lv stop w = record {
  tree = term_made n h f e l xs rest up is lv w;
  low = low;
  some = omega arith;
  taken = taken;
  stop = let back : f ≡ out-TermTree e = sym (out-roll-TermTree f) ∙ ap out-TermTree is in
      let P : TermLayer → Type 0 = λ g. term_follows rest ≤ term_after g in subst P back stop;
}

-- a leaf, which is one token
leaf : (b : ℕ) (f : TermLayer) (e : TermTree) (x : Lexeme) (l : ℕ) (xs rest : List Lexeme) → roll-TermTree f ≡ e
    → xs ≡ x ∷ rest → l ≤ term_level f → term_follows rest ≤ term_after f → TermNode (TermWithin 0) (LinkWithin 0) f xs rest
    → TermLeft (suc b) l xs (Ok ((e, 1), rest))
leaf b f e x l xs rest is one lv stop w =
    gives (e, 1) rest (wrote (suc b) 0 1 f e l xs rest is (omega arith) (omega arith) (omega (arith, ap length one)) lv stop w)

-- `xs` begins with the token, and `ys` stands after it
module _ (b : ℕ) (part : ℕ → Parser TallTerm) (sound : (l : ℕ) (xs : List Lexeme) → 1 ≤ l → l ≤ 11 → TermSound b l xs (part l xs)) where
  -- ---- arguments

  more_sound : (n : ℕ) (found : List TermTree) (high : ℕ) (xs : List Lexeme) → high ≤ b
      → Gives (λ r rest. IsMore b found high xs r rest) (b < length xs) (more_terms part n found high xs)
  unfolding more_terms
  more_sound zero found high xs hb = gives_none
  more_sound (suc n) found high xs hb =
      gives_then (sound 1 xs (omega arith) (omega arith)) (λ h. h) (λ a ys s. gives_if (sees o.Comma ys)
      (λ h. let u = from_sees o.Comma ys h in
      gives_map (λ r us v. (
        a.0,
        v.0 ∷ v.1,
        v.2 ∙ append_assoc found (a.0 ∷ []) (v.0 ∷ v.1),
        ys,
        term_grown a.1 r.1 (omega (arith, v.6)) a.0 1 xs ys s.0.tree,
        (next ys, u, v.3, v.4, v.5),
        omega (arith, v.6),
        v.7,
        omega (arith, v.8, s.0.taken, then_length _ ys (next ys) u),
      ))
      (λ h. omega (arith, s.0.taken, then_length _ ys (next ys) u))
      (more_sound n (found ++ a.0 ∷ []) (max high a.1) (next ys) (omega (arith, s.0.low))))
      (λ h. gives_then (op_gives o.RightParen ys) (λ h. absurd h) (λ _ zs u. gives (found ++ a.0 ∷ [], max high a.1) zs (
        a.0,
        [],
        refl,
        ys,
        term_grown a.1 (max high a.1) (omega arith) a.0 1 xs ys s.0.tree,
        u.0,
        omega arith,
        omega (arith, s.0.low),
        omega (arith, s.0.taken, u.1),
      ))))

  terms_sound : (xs : List Lexeme) → TermsSound b xs (terms part xs)
  unfolding terms
  terms_sound xs =
      gives_if (sees o.RightParen xs)
      (λ h. let u = from_sees o.RightParen xs h in
      gives ([], 0) (next xs) (u, omega arith, omega (arith, then_length _ xs (next xs) u)))
      (λ h. gives_map (λ r rest v.
      let P : List TermTree → Type 0 = λ given. Terms (TermWithin r.1) given xs rest in
      (subst P (sym v.2) (v.3, v.4, v.5), v.7, omega (arith, v.8))) (λ h. h) (more_sound (length xs) [] 0 xs (omega arith)))

  called_left : (l : ℕ) (x : Ident) (xs ys : List Lexeme) → l ≤ 11 → IsName x xs ys → TermLeft (suc b) l xs (called part x ys)
  unfolding called
  called_left l x xs ys high is =
      gives_if (sees o.LeftParen ys)
      (λ h. let u = from_sees o.LeftParen ys h in
      gives_then (terms_sound (next ys)) (λ h. omega (arith, ap length is.0, then_length _ ys (next ys) u)) (λ r zs s.
      gives (t.Call x r.0, r.1 + 1) zs (wrote (suc b) r.1 (r.1 + 1) (TermTree-F.Call x r.0) (t.Call x r.0) l xs zs (rolls-Call x r.0)
      (omega arith) (omega (arith, s.1)) (omega (arith, ap length is.0, then_length _ ys (next ys) u, s.2)) high (term_follows_most zs)
      (ys, is, next ys, u, s.0))))
      (λ h. leaf b (TermTree-F.Name x) (t.Name x) _ l xs ys (rolls-Name x) is.0 high (name_stop ys h) is)

  -- ---- parentheses

  closed_gives : (xs : List Lexeme)
      → Gives (λ a rest. (ys : List Lexeme) × WrittenTerm b 1 xs a ys × Then (k.Op o.RightParen) ys rest) (b < length xs) (closed part xs)
  unfolding closed
  closed_gives xs =
      gives_then (sound 1 xs (omega arith) (omega arith)) (λ h. h) (λ a ys s.
      gives_then (op_gives o.RightParen ys) (λ h. absurd h) (λ _ zs u. gives a zs (ys, s.0, u.0)))

  parens_left : (l at : ℕ) (xs ys : List Lexeme) → l ≤ 11 → xs ≡ lexeme at (k.Op o.LeftParen) ∷ ys
      → TermLeft (suc b) l xs (term_parens part at ys)
  unfolding term_parens
  parens_left l at xs ys high is =
      gives_then (closed_gives ys) (λ h. omega (arith, ap length is)) (λ a zs v.
      gives (t.Paren at a.0, a.1 + 1) zs (wrote (suc b) a.1 (a.1 + 1) (TermTree-F.Paren at a.0) (t.Paren at a.0) l xs zs
      (rolls-Paren at a.0) (omega arith) (omega (arith, v.1.low)) (omega (arith, ap length is, v.1.taken, then_length _ v.0 zs v.2)) high
      (term_follows_most zs) (ys, is, v.0, v.1.tree, v.2)))

  old_left : (l at : ℕ) (xs ys : List Lexeme) → l ≤ 11 → xs ≡ lexeme at (word_kind word.Old) ∷ ys → TermLeft (suc b) l xs (old part at ys)
  unfolding old
  old_left l at xs ys high is =
      gives_then (op_gives o.LeftParen ys) (λ h. absurd h) (λ _ zs u.
      gives_then (closed_gives zs) (λ h. omega (arith, ap length is, u.1)) (λ a us v.
      gives (t.Old at a.0, a.1 + 1) us (wrote (suc b) a.1 (a.1 + 1) (TermTree-F.Old at a.0) (t.Old at a.0) l xs us (rolls-Old at a.0)
      (omega arith) (omega (arith, v.1.low)) (omega (arith, ap length is, u.1, v.1.taken, then_length _ v.0 us v.2)) high
      (term_follows_most us) (ys, is, zs, u.0, v.0, v.1.tree, v.2))))

  -- ---- operators before an operand

  operand_left : (l at : ℕ) (p : PrefixOp) (xs ys : List Lexeme) → xs ≡ lexeme at (prefix_sign p) ∷ ys
      → TermLeft (suc b) l xs (term_operand part l at p ys)
  unfolding term_operand
  operand_left l at p xs ys is =
      gives_if (nat_lt (prefix_level p) l) (λ h. gives_none) (λ h.
      gives_then (sound (operand_level p) ys (omega (arith, (prefix_range p).operand_low)) (omega (arith, (prefix_range p).operand_high)))
      (λ g. omega (arith, ap length is)) (λ a zs s.
      gives_if (nat_lt (prefix_end p) (term_follows zs)) (λ g. gives_none) (λ g.
      gives (t.Prefix at p a.0, a.1 + 1) zs (wrote (suc b) a.1 (a.1 + 1) (TermTree-F.Prefix at p a.0) (t.Prefix at p a.0) l xs zs
      (rolls-Prefix at p a.0) (omega arith) (omega (arith, s.0.low)) (omega (arith, ap length is, s.0.taken))
      (from_not_below (prefix_level p) l h) (from_not_below (prefix_end p) (term_follows zs) g) (ys, is, s.0.tree)))))

  -- ---- quantifiers

  range_gives : (xs : List Lexeme)
      → Gives (λ a rest. (ys : List Lexeme) × Then (k.Op o.Colon) xs ys × (zs : List Lexeme) × WrittenTerm b 7 ys a zs × Then (k.Op o.Or) zs rest)
      (b < length xs) (range part xs)
  unfolding range
  range_gives xs =
      gives_then (op_gives o.Colon xs) (λ h. absurd h) (λ _ ys u.
      gives_then (sound 7 ys (omega arith) (omega arith)) (λ h. omega (arith, u.1)) (λ a zs s.
      gives_then (op_gives o.Or zs) (λ h. absurd h) (λ _ us v. gives a us (ys, u.0, zs, s.0, v.0))))

  quantified_left : (l at : ℕ) (q : Quantifier) (xs ys : List Lexeme) → xs ≡ lexeme at (word_kind (quantifier_word q)) ∷ ys
      → TermLeft (suc b) l xs (quantified part l at q ys)
  unfolding quantified
  quantified_left l at q xs ys is =
      gives_if (nat_lt 1 l) (λ h. gives_none) (λ h.
      gives_then (name_gives ys) (λ g. absurd g) (λ x zs n.
      gives_then (range_gives zs) (λ g. omega (arith, ap length is, n.1)) (λ a us v.
      gives_then (sound 1 us (omega arith) (omega arith))
      (λ g. omega (arith, ap length is, n.1, then_length _ zs v.0 v.1, v.3.taken, then_length _ v.2 us v.4)) (λ c vs s.
      let h2 = max a.1 c.1 in
      gives (t.Quantified at q x a.0 c.0, h2 + 1) vs (wrote (suc b) h2 (h2 + 1) (TermTree-F.Quantified at q x a.0 c.0)
      (t.Quantified at q x a.0 c.0) l xs vs (rolls-Quantified at q x a.0 c.0) (omega arith) (omega (arith, v.3.low, s.0.low))
      (omega (arith, ap length is, n.1, then_length _ zs v.0 v.1, v.3.taken, then_length _ v.2 us v.4, s.0.taken))
      (from_not_below 1 l h) (omega (arith, s.1)) (
        ys,
        is,
        zs,
        n.0,
        v.0,
        v.1,
        v.2,
        term_grown a.1 h2 (omega arith) a.0 7 v.0 v.2 v.3.tree,
        us,
        v.4,
        term_grown c.1 h2 (omega arith) c.0 1 us vs s.0.tree,
      ))))))

  -- ---- what begins with a token of its own

  word_left : (l at : ℕ) (n : ContractWord) (xs ys : List Lexeme) → l ≤ 11 → xs ≡ lexeme at (word_kind n) ∷ ys
      → TermLeft (suc b) l xs (word_prefix part l at n ys)
  word_left l at word.All xs ys high is = quantified_left l at quantifier.All xs ys is
  word_left l at word.Sum xs ys high is = quantified_left l at quantifier.Sum xs ys is
  word_left l at word.Exists xs ys high is =
      gives_if (sees_variable ys) (λ h. quantified_left l at quantifier.Exists xs ys is) (λ h. operand_left l at prefix.Exists xs ys is)
  word_left l at word.No xs ys high is =
      gives_if (sees_variable ys) (λ h. quantified_left l at quantifier.No xs ys is) (λ h. operand_left l at prefix.No xs ys is)
  word_left l at word.One xs ys high is = operand_left l at prefix.One xs ys is
  word_left l at word.Lone xs ys high is = operand_left l at prefix.Lone xs ys is
  word_left l at word.Old xs ys high is = old_left l at xs ys high is
  word_left l at word.Answer xs ys high is =
      leaf b (TermTree-F.Answer at) (t.Answer at) _ l xs ys (rolls-Answer at) is high (term_follows_most ys) is
  word_left l at _ xs ys high is = gives_none

  name_left : (l : ℕ) (x : Ident) (n : Option ContractWord) (xs ys : List Lexeme) → l ≤ 11 → IsIdent x xs ys → word_of x.name ≡ n
      → TermLeft (suc b) l xs (name_prefix part l x n ys)
  name_left l x None xs ys high is free = called_left l x xs ys high (is, free)
  name_left l x (Some n) xs ys high is that =
      word_left l x.at n xs ys high (is ∙ ap (λ s. lexeme x.at (k.Ident s) ∷ ys) (sym (word_spelled x.name n that)))

  operator_left : (l at : ℕ) (s : Operator) (xs ys : List Lexeme) → l ≤ 11 → xs ≡ lexeme at (k.Op s) ∷ ys
      → TermLeft (suc b) l xs (operator_prefix part l at s ys)
  operator_left l at o.LeftParen xs ys high is = parens_left l at xs ys high is
  operator_left l at o.Minus xs ys high is = operand_left l at prefix.Negate xs ys is
  operator_left l at o.Hash xs ys high is = operand_left l at prefix.Count xs ys is
  operator_left l at o.Not xs ys high is = operand_left l at prefix.Not xs ys is
  operator_left l at _ xs ys high is = gives_none

  keyword_left : (l at : ℕ) (s : Keyword) (xs ys : List Lexeme) → l ≤ 11 → xs ≡ lexeme at (k.Word s) ∷ ys
      → TermLeft (suc b) l xs (keyword_prefix at s ys)
  keyword_left l at w.True xs ys high is =
      leaf b (TermTree-F.Bool at true) (t.Bool at true) _ l xs ys (rolls-Bool at true) is high (term_follows_most ys) is
  keyword_left l at w.False xs ys high is =
      leaf b (TermTree-F.Bool at false) (t.Bool at false) _ l xs ys (rolls-Bool at false) is high (term_follows_most ys) is
  keyword_left l at w.Null xs ys high is =
      leaf b (TermTree-F.Null at) (t.Null at) _ l xs ys (rolls-Null at) is high (term_follows_most ys) is
  keyword_left l at w.This xs ys high is =
      leaf b (TermTree-F.This at) (t.This at) _ l xs ys (rolls-This at) is high (term_follows_most ys) is
  keyword_left l at _ xs ys high is = gives_none

  kind_left : (l at : ℕ) (kd : TokenKind) (xs ys : List Lexeme) → l ≤ 11 → xs ≡ lexeme at kd ∷ ys
      → TermLeft (suc b) l xs (term_prefix_by part l at kd ys)
  kind_left l at (k.Number v) xs ys high is =
      leaf b (TermTree-F.Number (number_of at v)) (t.Number (number_of at v)) _ l xs ys (rolls-Number (number_of at v)) is high
      (term_follows_most ys) is
  kind_left l at (k.Ident x) xs ys high is = name_left l (ident_at at x) (word_of x) xs ys high is refl
  kind_left l at (k.Word s) xs ys high is = keyword_left l at s xs ys high is
  kind_left l at (k.Op s) xs ys high is = operator_left l at s xs ys high is
  kind_left l at _ xs ys high is = gives_none

  prefix_left : (l : ℕ) (xs : List Lexeme) → l ≤ 11 → TermLeft (suc b) l xs (term_prefix part l xs)
  unfolding term_prefix
  prefix_left l [] high = gives_none
  prefix_left l (x ∷ xs) high = kind_left l x.at x.kind (x ∷ xs) xs high refl

  -- ---- what begins with an operand. `left` is written from xs to ys, and the token after it at ys; zs stands after that.

  operated_left : (l : ℕ) (xs ys zs : List Lexeme) (left : TallTerm) (p : TermOp) → WrittenTerm (suc b) l xs left ys → left.1 ≤ b
      → l ≤ op_level p → op_level p ≤ term_after (out-TermTree left.0) → Then (term_sign p) ys zs
      → TermHigher (suc b) l xs left.1 (term_operated part left p zs)
  unfolding term_operated
  operated_left l xs ys zs left p lw low lv hold u =
      gives_then (sound (right_level p) zs (omega (arith, (op_range p).right_low)) (omega (arith, (op_range p).right_high)))
      (λ h. omega (arith, lw.taken, then_length _ ys zs u)) (λ a us s.
      gives_if (nat_lt (op_end p) (term_follows us)) (λ g. gives_none) (λ g.
      let h = max left.1 a.1 in
      gives (t.Binary p left.0 a.0, h + 1) us (
        wrote (suc b) h (h + 1) (TermTree-F.Binary p left.0 a.0) (t.Binary p left.0 a.0) l xs us
            (rolls-Binary p left.0 a.0) (omega arith) (omega (arith, s.0.low))
            (omega (arith, lw.taken, then_length _ ys zs u, s.0.taken)) lv (from_not_below (op_end p) (term_follows us) g) (
              ys,
              term_grown left.1 h (omega arith) left.0 (left_level p) xs ys
                  (term_leveled left.1 left.0 l (left_level p) xs ys (term_lifts (out-TermTree left.0) p hold) lw.tree),
              zs,
              u,
              term_grown a.1 h (omega arith) a.0 (right_level p) zs us s.0.tree,
            ),
        omega arith,
      )))

  module _ (link : Parser TallLink) (link_is_sound : (xs : List Lexeme) → LinkSound b 4 xs (link xs)) where
    image_left : (l : ℕ) (xs ys zs : List Lexeme) (left : TallTerm) → WrittenTerm (suc b) l xs left ys → left.1 ≤ b
        → l ≤ 11 → 11 ≤ term_after (out-TermTree left.0) → Then (k.Op o.Dot) ys zs → TermHigher (suc b) l xs left.1 (image link left zs)
    unfolding image
    image_left l xs ys zs left lw low lv hold u =
        gives_then (link_is_sound zs) (λ h. omega (arith, lw.taken, then_length _ ys zs u)) (λ r us s.
        let h = max left.1 r.1 in
        gives (t.Image left.0 r.0, h + 1) us (
          wrote (suc b) h (h + 1) (TermTree-F.Image left.0 r.0) (t.Image left.0 r.0) l xs us
              (rolls-Image left.0 r.0) (omega arith) (omega (arith, s.0.low))
              (omega (arith, lw.taken, then_length _ ys zs u, s.0.taken)) lv (term_follows_most us) (
                ys,
                term_grown left.1 h (omega arith) left.0 11 xs ys
                    (term_leveled left.1 left.0 l 11 xs ys (term_hangs_on (out-TermTree left.0) hold) lw.tree),
                zs,
                u,
                link_grown r.1 h (omega arith) r.0 4 zs us s.0.tree,
              ),
          omega arith,
        ))

    behind_left : (l : ℕ) (xs ys zs : List Lexeme) (left : TallTerm) (j : TermInfix) → WrittenTerm (suc b) l xs left ys → left.1 ≤ b
        → l ≤ term_binds j → term_binds j ≤ term_after (out-TermTree left.0) → TermLeads j ys → zs ≡ next ys
        → TermHigher (suc b) l xs left.1 (term_behind part link left j zs)
    behind_left l xs ys zs left (i.Binary p) lw low lv hold u is = operated_left l xs ys zs left p lw low lv hold (rw is u)
    behind_left l xs ys zs left i.Dot lw low lv hold u is = image_left l xs ys zs left lw low lv hold (rw is u)
    behind_left l xs ys zs left i.Paren lw low lv hold u is = gives_none
    behind_left l xs ys zs left i.Colon lw low lv hold u is = gives_none
    behind_left l xs ys zs left i.Other lw low lv hold u is = gives_none

    nonempty : (l : ℕ) → 1 ≤ l → (ys : List Lexeme) → l ≤ term_follows ys → 0 < length ys
    nonempty l one [] h = absurd (omega arith)
    nonempty l one (y ∷ ys) h = omega arith

    climb_sound : (l : ℕ) → 1 ≤ l → (xs : List Lexeme) (fuel : ℕ) (left : TallTerm) (ys : List Lexeme) → WrittenTerm (suc b) l xs left ys
        → suc b < fuel + left.1 → TermSound (suc b) l xs (term_climb b part link l fuel left ys)
    unfolding term_climb
    climb_sound l one xs zero left ys lw enough = absurd (omega (arith, lw.low))
    climb_sound l one xs (suc fuel) left ys lw enough =
        gives_if (nat_lt (term_follows ys) l) (λ s. gives left ys (lw, from_below (term_follows ys) l s))
        (λ s. gives_if (nat_lt left.1 (suc b))
        (λ f. gives_then (behind_left l xs ys (next ys) left (infix_at ys) lw (let fit = from_below left.1 (suc b) f in omega arith)
        (from_not_below (term_follows ys) l s) lw.stop (term_leads ys) refl) (λ h. h)
        (λ new zs u. climb_sound l one xs fuel new zs u.0 (omega (arith, u.1))))
        (λ f. gives_high
        (omega (arith, from_not_below left.1 (suc b) f, lw.taken, nonempty l one ys (from_not_below (term_follows ys) l s)))))

    precedence_sound : (l : ℕ) → 1 ≤ l → l ≤ 11 → (xs : List Lexeme) → TermSound (suc b) l xs (term_precedence b part link l xs)
    unfolding term_precedence
    precedence_sound l one high xs =
        gives_then (prefix_left l xs high) (λ h. h) (λ left ys lw. climb_sound l one xs (suc b) left ys lw (omega (arith, lw.some)))

pub term_sound : (b l : ℕ) (xs : List Lexeme) → 1 ≤ l → l ≤ 11 → TermSound b l xs (read_term b l xs)
unfolding read_term
term_sound zero l xs one high = none_gives xs
term_sound (suc b) l xs one high =
    precedence_sound b (read_term b) (term_sound b) (read_link b 4) (λ ys. link_sound b 4 ys (omega arith) (omega arith)) l one high xs
