-- What reading says of spec methods of any height.
use Rattle.std.proofs.Common.{◌≡◌, ◌∙◌, ℕ, ◌≤◌, ◌<◌, max, List, [], length, Ok, Err, sym, ap, subst, arith}
use Rattle.token_reading.specs.Lexeme.{Lexeme}
use Rattle.token_reading.specs.Outcome.{no_tree, too_high, Outcome}
use Rattle.token_reading.proofs.Steps.{Or, found, higher, Gives, gives, gives_high}
use Rattle.spec_trees.specs.declared.contract.SpecTree.{SpecTree}
use Rattle.spec_trees.specs.Clauses.{SpecWithin}
use Rattle.spec_trees.specs.Height.{spec_height}
use Rattle.spec_reading.specs.ReadContract.{read_spec}
use Rattle.spec_reading.specs.SpecLaws.{SpecStands, OneSpec, FindsSpecs, GivesSpecs, RefusesSpecs, RefusesHighSpecs, SpecHeightIsLeast}
use Rattle.spec_reading.proofs.SpecFound.{spec_or}
use Rattle.spec_reading.proofs.SpecSound.{spec_sound}
use Rattle.spec_reading.proofs.ContractTrees.{spec_at_most, spec_fitting}

abbrev tree_of : SpecTree → Outcome SpecTree → SpecTree
tree_of t (Ok p) = p.0
tree_of t (Err f) = t

abbrev rest_of : Outcome SpecTree → List Lexeme
rest_of (Ok p) = p.1
rest_of (Err f) = []

-- A spec method that stands is found within the budget, or it is higher.
stands_found : (n : ℕ) (t : SpecTree) (xs rest : List Lexeme) → SpecStands t xs rest
    → Or (spec_height t) n (read_spec n xs) (Ok (t, rest))
stands_found n t xs rest s =
    spec_or (spec_height t) n t xs rest (spec_fitting s.0 (spec_height t) t xs rest (omega arith) s.1)

finds_by : (n h : ℕ) (o good : Outcome SpecTree) → h ≤ n → Or h n o good → o ≡ good
finds_by n h o good low (found is) = is
finds_by n h o good low (higher high is) = absurd (omega arith)

pub finds_specs : FindsSpecs
finds_specs n t xs rest s low = finds_by n (spec_height t) _ _ low (stands_found n t xs rest s)

given : (n : ℕ) (t : SpecTree) (xs rest : List Lexeme) → Gives (λ d zs. SpecWithin n d xs zs) (n ≤ length xs) (Ok (t, rest))
    → SpecWithin n t xs rest
given n t xs rest (gives a ys w) = w

pub gives_specs : GivesSpecs
gives_specs n t xs rest is =
    let P : Outcome SpecTree → Type 0 = λ o. Gives (λ d zs. SpecWithin n d xs zs) (n ≤ length xs) o in
    given n t xs rest (subst P is (spec_sound n xs))

none_by : (n h : ℕ) (o : Outcome SpecTree) (p : SpecTree × List Lexeme) → o ≡ Err no_tree → Or h n o (Ok p) → ⊥
none_by n h o p is (found that) = cc
none_by n h o p is (higher high that) = cc

pub refuses_specs : RefusesSpecs
refuses_specs n t xs rest is s = none_by n (spec_height t) _ _ is (stands_found n t xs rest s)

high_by : (n h : ℕ) (o : Outcome SpecTree) (p : SpecTree × List Lexeme) → o ≡ Err too_high → Or h n o (Ok p) → n < h
high_by n h o p is (found that) = absurd (cc)
high_by n h o p is (higher high that) = high

high_given : (n : ℕ) (xs : List Lexeme) → Gives (λ d zs. SpecWithin n d xs zs) (n ≤ length xs) (Err too_high) → n ≤ length xs
high_given n xs (gives_high h) = h

pub refuses_high_specs : RefusesHighSpecs
refuses_high_specs n xs is =
    let P : Outcome SpecTree → Type 0 = λ o. Gives (λ d zs. SpecWithin n d xs zs) (n ≤ length xs) o in (
      λ t rest s. high_by n (spec_height t) _ _ is (stands_found n t xs rest s),
      high_given n xs (subst P is (spec_sound n xs)),
    )

pub one_spec : OneSpec
one_spec s t xs ys zs v w =
    let n = max (spec_height s) (spec_height t) in
    let p = finds_specs n s xs ys v (omega arith) in
    let q = finds_specs n t xs zs w (omega arith) in
    (ap (tree_of s) (sym p ∙ q), ap rest_of (sym p ∙ q))

pub spec_height_is_least : SpecHeightIsLeast
spec_height_is_least n t xs rest w = (spec_at_most n t xs rest w, λ m low. spec_fitting n m t xs rest low w)
