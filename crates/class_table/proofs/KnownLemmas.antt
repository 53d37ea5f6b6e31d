-- Each superclass of a class of a file is a class.
use Rattle.std.proofs.Common.{◌≡◌, ◌+◌, ◌<◌, ◌≤◌, ◌∷◌, [], ℕ, zero, suc, List, map, length, Option, Some, None, cond, nat_lt, Bool, true, false, arith, refl, subst}
use Rattle.std.specs.List.{position_or_len}
use Rattle.std.proofs.lemmas.List.{length-map}
use Rattle.std.proofs.lemmas.Bool.Decides.{nat_tests}
use Rattle.java_syntax.specs.declared.class.ClassTree.{ClassTree}
use Rattle.token_reading.specs.declared.name.Ident.{Ident}
use Rattle.class_table.specs.Names.{Name, built_in_names, class_names, number_of, same_name}
use Rattle.class_table.specs.BuiltIn.{built_in}
use Rattle.class_table.specs.Ancestors.{IsKnown, parent_in, parents_of}
use Rattle.class_table.specs.Declarations.{declarations, declared_of, parent_number}

record AllBelow (n : ℕ) (ps : List (Option ℕ)) : Type 0 where
  pub below : (c d : ℕ) → parent_in ps c ≡ Some d → d < n

none_some : (d : ℕ) → None ≡ Some d → ⊥
none_some d e = cc

some_same : (a b : ℕ) → Some a ≡ Some b → a ≡ b
some_same a b e = cc

below_nil : (n : ℕ) → AllBelow n []
below_nil n = record { below = λ c d is. absurd (none_some d is) }

cons_at : (n : ℕ) (p : Option ℕ) (ps : List (Option ℕ)) → ((d : ℕ) → p ≡ Some d → d < n) → AllBelow n ps → (c d : ℕ) → parent_in (p ∷ ps) c ≡ Some d → d < n
cons_at n p ps head tail zero d is = head d is
cons_at n p ps head tail (suc c) d is = tail.below c d is

below_cons : (n : ℕ) (p : Option ℕ) (ps : List (Option ℕ)) → ((d : ℕ) → p ≡ Some d → d < n) → AllBelow n ps → AllBelow n (p ∷ ps)
below_cons n p ps head tail = record { below = cons_at n p ps head tail }

below_none : (n : ℕ) (ps : List (Option ℕ)) → AllBelow n ps → AllBelow n (None ∷ ps)
below_none n ps tail = below_cons n None ps (λ d e. absurd (none_some d e)) tail

below_some : (n k : ℕ) (ps : List (Option ℕ)) → k < n → AllBelow n ps → AllBelow n (Some k ∷ ps)
below_some n k ps low tail = below_cons n (Some k) ps (λ d e. subst (λ x. x < n) (some_same k d e) low) tail

number_below : (names : List Name) (name : Name) (d : ℕ) → number_of names name ≡ Some d → d < length names
number_below names name d is =
    let n : ℕ = position_or_len (same_name name) names in
    let cases : (b : Bool) → nat_lt n (length names) ≡ b → cond b (Some n) None ≡ Some d → d < length names =
    λ b. elim b as (λ v. nat_lt n (length names) ≡ v → cond v (Some n) None ≡ Some d → d < length names) [
      | true ↦ λ low e. (let same : n ≡ d = some_same n d e in let within : n < length names = grind (arith, nat_tests) in subst (λ x. x < length names) same within)
      | false ↦ λ high e. absurd (none_some d e)
    ] in
    cases (nat_lt n (length names)) refl is

parent_below : (names : List Name) (parent : Option Ident) (d : ℕ) → 0 < length names → parent_number names parent ≡ Some d → d < length names
parent_below names None d some is = subst (λ x. x < length names) (some_same 0 d is) some
parent_below names (Some p) d some is = number_below names p.name d is

below_declared : (names : List Name) (n : ℕ) (classes : List ClassTree) → 0 < length names → AllBelow (length names) (parents_of (declarations names n classes))
below_declared names n [] some = below_nil (length names)
below_declared names n (c ∷ more) some = below_cons (length names) (parent_number names c.parent) (parents_of (declarations names (n + 1) more)) (λ d is. parent_below names c.parent d some is) (below_declared names (n + 1) more some)

pub names_length : (classes : List ClassTree) → length (class_names classes) ≡ 18 + length classes
unfolding built_in_names
names_length classes = let e : length (map (λ (c : ClassTree). c.name.name) classes) ≡ length classes = length-map classes (λ c. c.name.name) in omega arith

declarations_length : (names : List Name) (n : ℕ) (classes : List ClassTree) → length (declarations names n classes) ≡ length classes
declarations_length names n [] = refl
declarations_length names n (c ∷ more) = let e = declarations_length names (n + 1) more in omega arith

pub declared_length : (classes : List ClassTree) → length (declared_of classes) ≡ 18 + length classes
unfolding declared_of built_in
declared_length classes = let e = declarations_length (class_names classes) 18 classes in omega arith

all_below : (classes : List ClassTree) → AllBelow (length (class_names classes)) (parents_of (declared_of classes))
unfolding declared_of built_in
all_below classes =
    let size = names_length classes in
    let n : ℕ = length (class_names classes) in
    let large : 18 ≤ n = omega arith in
    let own = below_declared (class_names classes) 18 classes (omega arith) in
    below_none n _ (below_some n 0 _ (omega arith) (below_some n 1 _ (omega arith) (below_some n 2 _ (omega arith) (below_some n 1 _ (omega arith)
    (below_some n 3 _ (omega arith) (below_some n 3 _ (omega arith) (below_some n 3 _ (omega arith) (below_some n 4 _ (omega arith)
    (below_some n 3 _ (omega arith) (below_some n 3 _ (omega arith) (below_some n 3 _ (omega arith) (below_some n 11 _ (omega arith)
    (below_some n 3 _ (omega arith) (below_some n 3 _ (omega arith) (below_some n 3 _ (omega arith) (below_some n 4 _ (omega arith) (below_some n 4 _ (omega arith) own)))))))))))))))))

pub known_of : (classes : List ClassTree) → IsKnown (parents_of (declared_of classes))
known_of classes =
    let size : length (parents_of (declared_of classes)) ≡ length (declared_of classes) = length-map (declared_of classes) (λ d. d.parent) in
    let a = names_length classes in
    let b = declared_length classes in
    record { known = λ c d is. (let low : d < length (class_names classes) = (all_below classes).below c d is in omega arith) }
