-- The whole program of a file that breaks no rule is well typed. The parts of `IsWellTyped`, and the lemma that gives
-- each:
--   few_classes   WholeClasses.few_classes: there are as many classes as rows of the table
--   built_in      WholeBuiltIn.first_rows: the first rows are those of the built-in classes, with their fields
--   classes       WholeProgram.class_typed, from
--     line          WholeClasses.has_line: a class stands on its own line
--     parent        WholeClasses.parent_there: a known superclass (rule 2); Object alone has none
--     few fields    WholeFields.few_fields: as many as instance fields in the row (rule 9)
--     fields        WholeFields.fields_typed: the types of declarations (rule 10), and initialisers (rules 10 to 21)
--     chosen        WholeChosen.all_chosen: what a selector picks is declared on the line
--     overrides     WholeChosen.overrides_right, by WholeOverrides: a method may override what it overrides (rule 6)
--     getMessage    WholeChosen.message_right: the same of `getMessage` of Throwable
--   inherited     WholeFields.all_inherited: the fields along a line begin with those of the superclass
--   methods       WholeMembers.methods_typed: declarations (rule 10) and bodies (rules 10 to 21)
--   makers        WholeMembers.makers_typed: the same, and the constructors that are made
--   main          WholeMain.main_there: `static void main` with one parameter of type `String[]` (rule 7)
--   contracts     WholeContracts.contracts_typed: no method has one yet
-- All together are WholeProgram.law.
--
-- This file: tests of all items of a list, and of what the members of all classes give.
use Rattle.std.proofs.Common.{◌≡◌, ◌∙◌, ℕ, zero, suc, ◌+◌, ◌<◌, Bool, true, ◌==◌, IsTrue, List, [], ◌∷◌, ◌++◌, length, map, reverse, Some, slice_get, refl, subst, sym, ap, arith}
use Rattle.std.specs.List.{flat_map, list_all, list_any}
use Rattle.std.proofs.lemmas.Option.{none-some, same_Some}
use Rattle.std.proofs.lemmas.Bool.{and_from, or_left, or_right, eq-eqb}
use Rattle.std.proofs.lemmas.Grind.{flat_map-append}
use Rattle.std.proofs.lemmas.List.{reverse-append}
use Rattle.std.proofs.lemmas.List.Folds.{list_all-append}
use Rattle.std.specs.Cmp.{first_so, second_so}
use Rattle.core_tree.specs.WellTyped.{each_numbered}
use Rattle.java_syntax.specs.declared.class.Member.{Member}
use Rattle.java_syntax.specs.declared.class.ClassTree.{ClassTree}
use Rattle.java_members.specs.Files.{of_members, of_made, is_maker, where_none}
use Rattle.typing_law.proofs.NoFaults.{empty_parts}
use Rattle.typing_law.proofs.FieldRows.{Each}

-- ---- each item

pub all_from : {X : Type 0} (test : X → Bool) (xs : List X) → Each (λ x. IsTrue (test x)) xs → IsTrue (list_all test xs)
all_from test [] each = refl
all_from test (x ∷ xs) each = and_from (test x) (list_all test xs) (each 0 x refl) (all_from test xs (λ k. each (suc k)))

pub all_numbered : {X : Type 0} (test : ℕ → X → Bool) (n : ℕ) (xs : List X) → ((k : ℕ) (x : X) → slice_get xs k ≡ Some x → IsTrue (test (n + k) x)) → IsTrue (each_numbered test n xs)
all_numbered test n [] each = refl
all_numbered test n (x ∷ xs) each =
    let here : n + 0 ≡ n = omega arith in
    and_from (test n x) (each_numbered test (suc n) xs) (subst (λ m. IsTrue (test m x)) here (each 0 x refl))
    (all_numbered test (suc n) xs (λ k y is. let e : n + suc k ≡ suc n + k = omega arith in subst (λ m. IsTrue (test m y)) e (each (suc k) y is)))

-- what holds of all, by number, holds of each
pub numbered_at : {X : Type 0} (test : ℕ → X → Bool) (n : ℕ) (xs : List X) (k : ℕ) (x : X) → IsTrue (each_numbered test n xs) → slice_get xs k ≡ Some x → IsTrue (test (n + k) x)
numbered_at test n [] k x all is = absurd (none-some x is)
numbered_at test n (y ∷ xs) zero x all is =
    let here : n ≡ n + 0 = omega arith in
    subst (λ m. IsTrue (test m x)) here (ap (test n) (sym (same_Some y x is)) ∙ first_so (test n y) (each_numbered test (suc n) xs) all)
numbered_at test n (y ∷ xs) (suc k) x all is =
    let e : suc n + k ≡ n + suc k = omega arith in
    subst (λ m. IsTrue (test m x)) e (numbered_at test (suc n) xs k x (second_so (test n y) (each_numbered test (suc n) xs) all) is)

-- two maps that are the same at each item
pub map_each : {X Y : Type 0} (f g : X → Y) (xs : List X) → Each (λ x. f x ≡ g x) xs → map f xs ≡ map g xs
map_each f g [] each = refl
map_each f g (x ∷ xs) each = ap (λ y. y ∷ map f xs) (each 0 x refl) ∙ ap (λ ys. g x ∷ ys) (map_each f g xs (λ k. each (suc k)))

pub all_flat : {X Y : Type 0} (test : Y → Bool) (give : X → List Y) (xs : List X) → Each (λ x. IsTrue (list_all test (give x))) xs → IsTrue (list_all test (flat_map give xs))
all_flat test give [] each = refl
all_flat test give (x ∷ xs) each = list_all-append test (give x) (flat_map give xs) ∙ and_from (list_all test (give x)) (list_all test (flat_map give xs)) (each 0 x refl) (all_flat test give xs (λ k. each (suc k)))

-- where all give nothing, each does
pub none_of : {X Y : Type 0} (give : X → List Y) (xs : List X) (k : ℕ) (x : X) → flat_map give xs ≡ [] → slice_get xs k ≡ Some x → give x ≡ []
none_of give [] k x none is = absurd (none-some x is)
none_of give (y ∷ xs) zero x none is = ap give (sym (same_Some y x is)) ∙ (empty_parts (give y) (flat_map give xs) none).0
none_of give (y ∷ xs) (suc k) x none is = none_of give xs k x (empty_parts (give y) (flat_map give xs) none).1 is

-- an item of the front
pub get_front : {X : Type 0} (xs ys : List X) (k : ℕ) → k < length xs → slice_get (xs ++ ys) k ≡ slice_get xs k
get_front [] ys k below = absurd (none_below k below)
  where
    none_below : (k : ℕ) → k < 0 → ⊥
    none_below k below = omega arith
get_front (x ∷ xs) ys zero below = refl
get_front (x ∷ xs) ys (suc k) below = get_front xs ys k (omega arith)

-- ---- along a line, the highest class first

pub along_line : {X : Type 0} (give : ℕ → List X) (c : ℕ) (line : List ℕ) → flat_map give (reverse (c ∷ line)) ≡ flat_map give (reverse line) ++ flat_map give (c ∷ [])
along_line give c line = ap (flat_map give) (reverse-append (c ∷ []) line) ∙ flat_map-append give (reverse line) (c ∷ [])

pub all_line : {X : Type 0} (test : X → Bool) (give : ℕ → List X) (line : List ℕ) → ((d : ℕ) → IsTrue (list_any (λ a. a == d) line) → IsTrue (list_all test (give d))) → IsTrue (list_all test (flat_map give (reverse line)))
all_line test give [] each = refl
all_line test give (c ∷ line) each =
    let more = all_line test give line (λ d on. each d (or_right (c == d) (list_any (λ a. a == d) line) on)) in
    let here = each c (or_left (c == c) (list_any (λ a. a == c) line) (eq-eqb c c refl)) in
    ap (list_all test) (along_line give c line) ∙ list_all-append test (flat_map give (reverse line)) (flat_map give (c ∷ []))
    ∙ and_from (list_all test (flat_map give (reverse line))) (list_all test (flat_map give (c ∷ []))) more
    (list_all-append test (give c) [] ∙ and_from (list_all test (give c)) true here refl)

-- ---- the members of all classes

pub all_members : {X : Type 0} (test : X → Bool) (give : ℕ → Member → List X) (n : ℕ) (ks : List ClassTree) → ((j : ℕ) (k : ClassTree) → slice_get ks j ≡ Some k → Each (λ m. IsTrue (list_all test (give (n + j) m))) k.members) → IsTrue (list_all test (of_members give n ks))
unfolding of_members
all_members test give n [] each = refl
all_members test give n (k ∷ ks) each =
    let here : n + 0 ≡ n = omega arith in
    list_all-append test (flat_map (give n) k.members) (of_members give (suc n) ks)
    ∙ and_from (list_all test (flat_map (give n) k.members)) (list_all test (of_members give (suc n) ks))
    (all_flat test (give n) k.members (λ i m is. subst (λ c. IsTrue (list_all test (give c m))) here (each 0 k refl i m is)))
    (all_members test give (suc n) ks (λ j o is_o i m is. let e : n + suc j ≡ suc n + j = omega arith in subst (λ c. IsTrue (list_all test (give c m))) e (each (suc j) o is_o i m is)))

-- ---- the classes that declare no constructor

pub all_made : {X : Type 0} (test : X → Bool) (give : ℕ → ClassTree → List X) (n : ℕ) (ks : List ClassTree) → ((j : ℕ) (k : ClassTree) → slice_get ks j ≡ Some k → IsTrue (list_all test (where_none (flat_map is_maker k.members) (give (n + j) k)))) → IsTrue (list_all test (of_made give n ks))
unfolding of_made
all_made test give n [] each = refl
all_made test give n (k ∷ ks) each =
    let here : n + 0 ≡ n = omega arith in
    let mine = where_none (flat_map is_maker k.members) (give n k) in
    list_all-append test mine (of_made give (suc n) ks)
    ∙ and_from (list_all test mine) (list_all test (of_made give (suc n) ks))
    (subst (λ c. IsTrue (list_all test (where_none (flat_map is_maker k.members) (give c k)))) here (each 0 k refl))
    (all_made test give (suc n) ks (λ j o is. let e : n + suc j ≡ suc n + j = omega arith in subst (λ c. IsTrue (list_all test (where_none (flat_map is_maker o.members) (give c o)))) e (each (suc j) o is)))

pub none_made : {X : Type 0} (give : ℕ → ClassTree → List X) (n : ℕ) (ks : List ClassTree) (j : ℕ) (k : ClassTree) → of_made give n ks ≡ [] → slice_get ks j ≡ Some k → where_none (flat_map is_maker k.members) (give (n + j) k) ≡ []
unfolding of_made
none_made give n [] j k none is = absurd (none-some k is)
none_made give n (h ∷ ks) zero k none is =
    let here : n ≡ n + 0 = omega arith in
    ap (λ c. where_none (flat_map is_maker k.members) (give c k)) (sym here) ∙ ap (λ k. where_none (flat_map is_maker k.members) (give n k)) (sym (same_Some h k is))
    ∙ (empty_parts (where_none (flat_map is_maker h.members) (give n h)) (of_made give (suc n) ks) none).0
none_made give n (h ∷ ks) (suc j) k none is =
    let e : suc n + j ≡ n + suc j = omega arith in
    ap (λ c. where_none (flat_map is_maker k.members) (give c k)) (sym e) ∙ none_made give (suc n) ks j k (empty_parts (where_none (flat_map is_maker h.members) (give n h)) (of_made give (suc n) ks) none).1 is
