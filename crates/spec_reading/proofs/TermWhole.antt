-- What reading says of terms of any height.
use Rattle.std.proofs.Common.{◌≡◌, ◌∙◌, ℕ, ◌≤◌, ◌<◌, max, List, [], length, Ok, Err, sym, ap, subst, arith}
use Rattle.token_reading.specs.Lexeme.{Lexeme}
use Rattle.token_reading.specs.Outcome.{no_tree, too_high, Outcome}
use Rattle.token_reading.proofs.Steps.{Gives, gives, gives_high}
use Rattle.spec_trees.specs.declared.term.TermTree.{TermTree}
use Rattle.spec_trees.specs.Terms.{TermWithin}
use Rattle.spec_trees.specs.Height.{term_height}
use Rattle.spec_reading.specs.ReadTerm.{TallTerm, term_follows, read_term}
use Rattle.spec_reading.specs.TermLaws.{TermStands, OneTerm, FindsTerms, GivesTerms, RefusesTerms, RefusesHighTerms, TermHeightIsLeast}
use Rattle.spec_reading.proofs.Claims.{Found, found, over}
use Rattle.spec_reading.proofs.TermFound.{every_term}
use Rattle.spec_reading.proofs.TermSound.{WrittenTerm, TermSound, term_sound}
use Rattle.spec_reading.proofs.TermTrees.{term_at_most, term_grown, term_fitting}

pub term_at_height : (n : ℕ) (e : TermTree) (l : ℕ) (xs rest : List Lexeme) → TermWithin n e l xs rest → TermWithin (term_height e) e l xs rest
term_at_height n e l xs rest w = term_fitting n (term_height e) e l xs rest (omega arith) w

abbrev tree_of : TermTree → Outcome TallTerm → TermTree
tree_of e (Ok p) = p.0.0
tree_of e (Err f) = e

abbrev height_of : Outcome TallTerm → ℕ
height_of (Ok p) = p.0.1
height_of (Err f) = 0

abbrev rest_of : Outcome TallTerm → List Lexeme
rest_of (Ok p) = p.1
rest_of (Err f) = []

-- A term of its height that stands is found within the budget, or it is higher.
stands_found : (n : ℕ) (e : TermTree) (xs rest : List Lexeme) → TermStands e xs rest
    → Found (term_height e) n (term_height e) (read_term n 1 xs) (Ok ((e, term_height e), rest))
stands_found n e xs rest s =
    every_term (term_height e) n e 1 xs rest (term_at_height s.0 e 1 xs rest s.1) (omega arith) (omega arith) (omega (arith, s.2))

finds_by : (n : ℕ) (e : TermTree) (o : Outcome TallTerm) (good : Outcome TallTerm) → term_height e ≤ n → Found (term_height e) n (term_height e) o good → o ≡ good
finds_by n e o good low (found fit is) = is
finds_by n e o good low (over high is) = absurd (omega arith)

pub finds_terms : FindsTerms
finds_terms n e xs rest s low = finds_by n e _ _ low (stands_found n e xs rest s)

-- what is read of a term is written, ends before a token that doesn't bind to it, and has the height that is given
pub term_given : (n l : ℕ) (e : TermTree) (h : ℕ) (xs rest : List Lexeme) → Gives (λ t zs. WrittenTerm n l xs t zs × (term_follows zs < l)) (n < length xs) (Ok ((e, h), rest))
    → WrittenTerm n l xs (e, h) rest × (term_follows rest < l)
term_given n l e h xs rest (gives a ys w) = w

same_height : (n : ℕ) (e : TermTree) (h : ℕ) (xs rest : List Lexeme) → read_term n 1 xs ≡ Ok ((e, h), rest) → term_height e ≤ n
    → Found (term_height e) n (term_height e) (read_term n 1 xs) (Ok ((e, term_height e), rest)) → h ≡ term_height e
same_height n e h xs rest is low (found fit that) = ap height_of (sym is ∙ that)
same_height n e h xs rest is low (over high that) = absurd (omega arith)

pub gives_terms : GivesTerms
gives_terms n e h xs rest r =
    let s = term_given n 1 e h xs rest (subst (λ (o : Outcome TallTerm). TermSound n 1 xs o) r (term_sound n 1 xs (omega arith) (omega arith))) in
    let w = term_grown h n s.0.low e 1 xs rest s.0.tree in
    let low = term_at_most n e 1 xs rest w in
    (w, same_height n e h xs rest r low (stands_found n e xs rest (n, w, omega (arith, s.1))))

none_by : (n : ℕ) (e : TermTree) (o : Outcome TallTerm) (p : TallTerm × List Lexeme) → o ≡ Err no_tree → Found (term_height e) n (term_height e) o (Ok p) → ⊥
none_by n e o p is (found fit that) = cc
none_by n e o p is (over high that) = cc

pub refuses_terms : RefusesTerms
refuses_terms n e xs rest is s = none_by n e _ _ is (stands_found n e xs rest s)

high_by : (n : ℕ) (e : TermTree) (o : Outcome TallTerm) (p : TallTerm × List Lexeme) → o ≡ Err too_high → Found (term_height e) n (term_height e) o (Ok p) → n < term_height e
high_by n e o p is (found fit that) = absurd (cc)
high_by n e o p is (over high that) = high

high_given : (n : ℕ) (xs : List Lexeme) → TermSound n 1 xs (Err too_high) → n < length xs
high_given n xs (gives_high h) = h

pub refuses_high_terms : RefusesHighTerms
refuses_high_terms n xs is = (
  λ e rest s. high_by n e _ _ is (stands_found n e xs rest s),
  high_given n xs (subst (λ (o : Outcome TallTerm). TermSound n 1 xs o) is (term_sound n 1 xs (omega arith) (omega arith))),
)

pub one_term : OneTerm
one_term e d xs ys zs s t =
    let n = max (term_height e) (term_height d) in
    let p = finds_terms n e xs ys s (omega arith) in
    let q = finds_terms n d xs zs t (omega arith) in
    (ap (tree_of e) (sym p ∙ q), ap rest_of (sym p ∙ q))

pub term_height_is_least : TermHeightIsLeast
term_height_is_least n e l xs rest w = (term_at_height n e l xs rest w, term_at_most n e l xs rest w)
