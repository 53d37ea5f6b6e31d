-- What stands after a tree is the end of the list on which it is written.
use Rattle.std.proofs.Common.{◌≡◌, ◌∙◌, ℕ, zero, suc, ◌+◌, ◌-◌, List, [], ◌∷◌, Bool, true, false, Option, Some, None, drop, length, refl, sym, ap, arith}
use Rattle.std.proofs.lemmas.List.{drop-drop}
use Rattle.java_tokens.specs.declared.token.TokenKind.{TokenKind}
use Rattle.token_reading.specs.declared.name.BaseType.{BaseType}
use Rattle.token_reading.specs.declared.name.BaseType.TheVariants as base
use Rattle.token_reading.specs.declared.name.ParamTree.{ParamTree}
use Rattle.token_reading.specs.declared.name.TypeTree.{TypeTree}
use Rattle.token_reading.specs.Lexeme.{Lexeme, Then}
use Rattle.token_reading.specs.ReadType.{next}
use Rattle.token_reading.specs.Types.{IsBase, Brackets, IsType, Param, MoreParams, Params}
use Rattle.spec_trees.specs.declared.contract.AddedTree.{AddedTree}
use Rattle.spec_trees.specs.declared.contract.BoundTree.{BoundTree}
use Rattle.spec_trees.specs.declared.contract.ContractTree.{ContractTree}
use Rattle.spec_trees.specs.declared.contract.IntsTree.{IntsTree}
use Rattle.spec_trees.specs.declared.contract.SpecTree.{SpecTree}
use Rattle.spec_trees.specs.declared.link.LinkTree.{LinkTree, out-LinkTree}
use Rattle.spec_trees.specs.declared.link.LinkTree.TheOpen.{LinkTree-F}
use Rattle.spec_trees.specs.declared.term.TermTree.{TermTree, out-TermTree}
use Rattle.spec_trees.specs.declared.term.TermTree.TheOpen.{TermTree-F}
use Rattle.spec_trees.specs.declared.word.ContractWord.{ContractWord}
use Rattle.spec_trees.specs.declared.word.ContractWord.TheVariants as word
use Rattle.spec_trees.specs.Clauses.{MinusIf, IsBound, IntsClause, MoreItems, ListClause, IsAdded, IsPlace, ContractWithin, SpecWithin}
use Rattle.spec_trees.specs.Links.{LinkLayer, LinkNode, LinkWithin}
use Rattle.spec_trees.specs.Terms.{TermLayer, MoreTerms, Terms, TermNode, TermWithin}

-- the second list is the end of the first
abbrev pub Ends : List Lexeme → List Lexeme → Type 0
Ends xs rest = (n : ℕ) × (drop n xs ≡ rest)

one : (x : Lexeme) (xs ys : List Lexeme) → xs ≡ x ∷ ys → Ends xs ys
one x xs ys is = (1, rw is refl)

next_one : (kd : TokenKind) (xs ys : List Lexeme) → Then kd xs ys → Ends xs ys
next_one kd xs ys u = one _ xs ys u.1

same : (xs ys : List Lexeme) → xs ≡ ys → Ends xs ys
same xs ys is = (0, is)

infixr 20 ◌then◌
◌then◌ : {xs ys zs : List Lexeme} → Ends xs ys → Ends ys zs → Ends xs zs
◌then◌ {xs = xs} p q = (p.0 + q.0, sym (drop-drop q.0 p.0 xs) ∙ ap (drop q.0) p.1 ∙ q.1)

-- ---- types and parameters

brackets_end : (n : ℕ) (xs rest : List Lexeme) → Brackets n xs rest → Ends xs rest
brackets_end zero xs rest w = same xs rest w
brackets_end (suc n) xs rest w = next_one _ xs w.0 w.1 then next_one _ w.0 w.2 w.3 then brackets_end n w.2 rest w.4

base_end : (b : BaseType) (xs rest : List Lexeme) → IsBase b xs rest → Ends xs rest
base_end base.Int xs rest w = next_one _ xs rest w
base_end base.Boolean xs rest w = next_one _ xs rest w
base_end (base.Class x) xs rest w = one _ xs rest w

type_end : (t : TypeTree) (xs rest : List Lexeme) → IsType t xs rest → Ends xs rest
type_end t xs rest w = base_end t.base xs w.0 w.1 then brackets_end t.dimensions w.0 rest w.2

param_end : (t : ParamTree) (xs rest : List Lexeme) → Param t xs rest → Ends xs rest
param_end t xs rest w = type_end t.ty xs w.0 w.1 then one _ w.0 rest w.2

more_params_end : (all : List ParamTree) (xs rest : List Lexeme) → MoreParams all xs rest → Ends xs rest
more_params_end [] xs rest w = next_one _ xs rest w
more_params_end (t ∷ more) xs rest w =
    next_one _ xs w.0 w.1 then param_end t w.0 w.2 w.3 then more_params_end more w.2 rest w.4

params_end : (all : List ParamTree) (xs rest : List Lexeme) → Params all xs rest → Ends xs rest
params_end [] xs rest w = next_one _ xs rest w
params_end (t ∷ more) xs rest w = param_end t xs w.0 w.1 then more_params_end more w.0 rest w.2

-- ---- relations

link_node_end : (Part : LinkTree → ℕ → List Lexeme → List Lexeme → Type 0)
    → ((r : LinkTree) (l : ℕ) (xs rest : List Lexeme) → Part r l xs rest → Ends xs rest)
    → (f : LinkLayer) (xs rest : List Lexeme) → LinkNode Part f xs rest → Ends xs rest
link_node_end Part ends (LinkTree-F.Field x) xs rest w = one _ xs rest w.0
link_node_end Part ends (LinkTree-F.Path at p r) xs rest w = one _ xs w.0 w.1 then ends r 4 w.0 rest w.2
link_node_end Part ends (LinkTree-F.Paren at r) xs rest w =
    one _ xs w.0 w.1 then ends r 1 w.0 w.2 w.3 then next_one _ w.2 rest w.4
link_node_end Part ends (LinkTree-F.Binary p r s) xs rest w =
    ends r _ xs w.0 w.1 then next_one _ w.0 w.2 w.3 then ends s _ w.2 rest w.4

link_end : (n : ℕ) (r : LinkTree) (l : ℕ) (xs rest : List Lexeme) → LinkWithin n r l xs rest → Ends xs rest
unfolding LinkWithin
link_end zero r l xs rest w = absurd w
link_end (suc n) r l xs rest w = link_node_end (LinkWithin n) (link_end n) (out-LinkTree r) xs rest w.1

-- ---- terms

module _ (Part : TermTree → ℕ → List Lexeme → List Lexeme → Type 0) (Link : LinkTree → ℕ → List Lexeme → List Lexeme → Type 0)
    (ends : (t : TermTree) (l : ℕ) (xs rest : List Lexeme) → Part t l xs rest → Ends xs rest)
    (link_ends : (r : LinkTree) (l : ℕ) (xs rest : List Lexeme) → Link r l xs rest → Ends xs rest) where
  more_terms_end : (given : List TermTree) (xs rest : List Lexeme) → MoreTerms Part given xs rest → Ends xs rest
  more_terms_end [] xs rest w = next_one _ xs rest w
  more_terms_end (a ∷ more) xs rest w =
      next_one _ xs w.0 w.1 then ends a 1 w.0 w.2 w.3 then more_terms_end more w.2 rest w.4

  terms_end : (given : List TermTree) (xs rest : List Lexeme) → Terms Part given xs rest → Ends xs rest
  terms_end [] xs rest w = next_one _ xs rest w
  terms_end (a ∷ more) xs rest w = ends a 1 xs w.0 w.1 then more_terms_end more w.0 rest w.2

  term_node_end : (f : TermLayer) (xs rest : List Lexeme) → TermNode Part Link f xs rest → Ends xs rest
  term_node_end (TermTree-F.Number x) xs rest w = one _ xs rest w
  term_node_end (TermTree-F.Bool at b) xs rest w = one _ xs rest w
  term_node_end (TermTree-F.Null at) xs rest w = one _ xs rest w
  term_node_end (TermTree-F.This at) xs rest w = one _ xs rest w
  term_node_end (TermTree-F.Answer at) xs rest w = one _ xs rest w
  term_node_end (TermTree-F.Name x) xs rest w = one _ xs rest w.0
  term_node_end (TermTree-F.Call x given) xs rest w =
      one _ xs w.0 w.1.0 then next_one _ w.0 w.2 w.3 then terms_end given w.2 rest w.4
  term_node_end (TermTree-F.Old at a) xs rest w =
      one _ xs w.0 w.1 then next_one _ w.0 w.2 w.3 then ends a 1 w.2 w.4 w.5 then next_one _ w.4 rest w.6
  term_node_end (TermTree-F.Paren at a) xs rest w =
      one _ xs w.0 w.1 then ends a 1 w.0 w.2 w.3 then next_one _ w.2 rest w.4
  term_node_end (TermTree-F.Image a r) xs rest w =
      ends a 11 xs w.0 w.1 then next_one _ w.0 w.2 w.3 then link_ends r 4 w.2 rest w.4
  term_node_end (TermTree-F.Prefix at p a) xs rest w = one _ xs w.0 w.1 then ends a _ w.0 rest w.2
  term_node_end (TermTree-F.Binary p a c) xs rest w =
      ends a _ xs w.0 w.1 then next_one _ w.0 w.2 w.3 then ends c _ w.2 rest w.4
  term_node_end (TermTree-F.Quantified at q x a c) xs rest w =
      one _ xs w.0 w.1 then one _ w.0 w.2 w.3.0 then next_one _ w.2 w.4 w.5 then ends a 7 w.4 w.6 w.7
      then next_one _ w.6 w.8 w.9 then ends c 1 w.8 rest w.10

term_end : (n : ℕ) (t : TermTree) (l : ℕ) (xs rest : List Lexeme) → TermWithin n t l xs rest → Ends xs rest
unfolding TermWithin
term_end zero t l xs rest w = absurd w
term_end (suc n) t l xs rest w = term_node_end (TermWithin n) (LinkWithin n) (term_end n) (link_end n) (out-TermTree t) xs rest w.1

-- ---- contracts and spec methods

minus_end : (b : Bool) (xs rest : List Lexeme) → MinusIf b xs rest → Ends xs rest
minus_end true xs rest w = next_one _ xs rest w
minus_end false xs rest w = same xs rest w

bound_end : (b : BoundTree) (xs rest : List Lexeme) → IsBound b xs rest → Ends xs rest
bound_end b xs rest w = minus_end b.is_negative xs w.0 w.1 then one _ w.0 rest w.2

ints_end : (t : Option IntsTree) (xs rest : List Lexeme) → IntsClause t xs rest → Ends xs rest
ints_end None xs rest w = same xs rest w
ints_end (Some t) xs rest w =
    next_one _ xs w.0 w.1 then bound_end t.low w.0 w.2 w.3 then next_one _ w.2 w.4 w.5 then bound_end t.high w.4 rest w.6

module _ {A : Type 0} (Item : A → List Lexeme → List Lexeme → Type 0)
    (ends : (a : A) (xs rest : List Lexeme) → Item a xs rest → Ends xs rest) where
  more_items_end : (all : List A) (xs rest : List Lexeme) → MoreItems Item all xs rest → Ends xs rest
  more_items_end [] xs rest w = same xs rest w
  more_items_end (a ∷ more) xs rest w =
      next_one _ xs w.0 w.1 then ends a w.0 w.2 w.3 then more_items_end more w.2 rest w.4

  list_end : (name : ContractWord) (all : List A) (xs rest : List Lexeme) → ListClause name Item all xs rest → Ends xs rest
  list_end name [] xs rest w = same xs rest w
  list_end name (a ∷ more) xs rest w =
      next_one _ xs w.0 w.1 then ends a w.0 w.2 w.3 then more_items_end more w.2 rest w.4

added_end : (a : AddedTree) (xs rest : List Lexeme) → IsAdded a xs rest → Ends xs rest
added_end a xs rest w = one _ xs w.0 w.1 then one _ w.0 rest w.2.0

pub contract_end : (n : ℕ) (c : ContractTree) (xs rest : List Lexeme) → ContractWithin n c xs rest → Ends xs rest
unfolding ContractWithin
contract_end zero c xs rest w = absurd w
contract_end (suc n) c xs rest w =
    ints_end c.ints xs w.0 w.1
    then list_end (IsPlace (TermWithin n)) (λ t. term_end n t 11) word.Modifies c.modifies w.0 w.2 w.3
    then list_end IsAdded added_end word.Adds c.adds w.2 w.4 w.5 then one _ w.4 w.6 w.7 then term_end n c.ensured 1 w.6 rest w.8

pub spec_end : (n : ℕ) (t : SpecTree) (xs rest : List Lexeme) → SpecWithin n t xs rest → Ends xs rest
unfolding SpecWithin
spec_end zero t xs rest w = absurd w
spec_end (suc n) t xs rest w =
    let s = w.0 in
    one _ xs s.0 s.1 then type_end t.ty s.0 s.2 s.3 then one _ s.2 s.4 s.5 then next_one _ s.4 s.6 s.7
    then params_end t.params s.6 s.8 s.9 then next_one _ s.8 s.10 s.11 then term_end n t.term 1 s.10 s.12 s.13
    then next_one _ s.12 rest s.14

-- ---- by a number of tokens

all_of : (n : ℕ) (xs : List Lexeme) → n ≡ 0 → drop n xs ≡ xs
all_of zero xs is = refl
all_of (suc n) xs is = absurd (omega arith)

drop_length : (k : ℕ) (all : List Lexeme) → length all ≡ length (drop k all) + (length all - length (drop k all))
drop_length zero all = omega arith
drop_length (suc k) [] = omega arith
drop_length (suc k) (x ∷ all) = omega (arith, drop_length k all)

counted_by : (k : ℕ) (all : List Lexeme) → drop (length all - length (drop k all)) all ≡ drop k all
counted_by zero all = all_of (length all - length all) all (omega arith)
counted_by (suc k) [] = refl
counted_by (suc k) (x ∷ all) =
    let turn : length (x ∷ all) - length (drop k all) ≡ suc (length all - length (drop k all)) = omega (arith, drop_length k all) in
    ap (λ n. drop n (x ∷ all)) turn ∙ counted_by k all

-- The end of the end of a list is as many of its last elements.
pub counted : (from : ℕ) (all rest : List Lexeme) → Ends (drop from all) rest → drop (length all - length rest) all ≡ rest
counted from all rest e =
    let whole : drop (from + e.0) all ≡ rest = sym (drop-drop e.0 from all) ∙ e.1 in
    let last = counted_by (from + e.0) all in
    rw whole at last

-- ---- one token after the other

drop_none : (n : ℕ) → drop {A = Lexeme} n [] ≡ []
drop_none zero = refl
drop_none (suc n) = refl

pub skip_next : (n : ℕ) (xs : List Lexeme) → drop (suc n) xs ≡ drop n (next xs)
skip_next n [] = sym (drop_none n)
skip_next n (x ∷ xs) = refl
