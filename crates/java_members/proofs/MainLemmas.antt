-- The first method that passes a test, counted on from a number.
use Rattle.std.proofs.Common.{◌≡◌, ◌∙◌, refl, sym, ap, ℕ, suc, ◌+◌, ◌<◌, Bool, true, false, List, [], ◌∷◌, ◌++◌, drop, length, flat_map, get_or, unwrap_or, Option, None, Some, option_map, position, arith}
use Rattle.std.proofs.lemmas.List.{at_drop_more}
use Rattle.std.proofs.lemmas.Option.{none-some}
use Rattle.java_syntax.specs.declared.class.Member.{Member}
use Rattle.java_syntax.specs.declared.class.MethodTree.{MethodTree}
use Rattle.java_syntax.specs.declared.class.ClassTree.{ClassTree}
use Rattle.class_table.specs.Members.{method_row}
use Rattle.class_table.specs.Rules.{is_main}
use Rattle.java_members.specs.Files.{method_tree}

module _ {X : Type 0} (p : X → Bool) where
  -- the place of the first, counted on from n
  abbrev from : ℕ → List X → Option ℕ
  from n xs = option_map (λ k. n + k) (position p xs)

  position-here : (x : X) (xs : List X) → p x ≡ true → position p (x ∷ xs) ≡ Some 0
  position-here x xs passes = grind arith

  position-there : (x : X) (xs : List X) → p x ≡ false → position p (x ∷ xs) ≡ option_map (λ k. 1 + k) (position p xs)
  position-there x xs fails = grind arith

  shifted : (n k : ℕ) (o : Option ℕ) → option_map (λ j. n + j) (option_map (λ j. k + j) o) ≡ option_map (λ j. (n + k) + j) o
  shifted n k None = refl
  shifted n k (Some j) = ap Some (omega arith)

  pub found_here : (n : ℕ) (x : X) (xs : List X) → p x ≡ true → from n (x ∷ xs) ≡ Some n
  found_here n x xs passes = ap (option_map (λ k. n + k)) (position-here x xs passes) ∙ ap Some (omega arith)

  pub passed_here : (n : ℕ) (x : X) (xs : List X) → p x ≡ false → from n (x ∷ xs) ≡ from (n + 1) xs
  passed_here n x xs fails = ap (option_map (λ k. n + k)) (position-there x xs fails) ∙ shifted n 1 (position p xs)

  -- one that is found in a first part is found in the whole
  pub found_first : (n k : ℕ) (xs ys : List X) → from n xs ≡ Some k → from n (xs ++ ys) ≡ Some k
  found_first n k [] ys found = absurd (none-some k found)
  found_first n k (x ∷ xs) ys found = by (found_first (n + 1) k xs ys) (p x) refl
    where
      by : (from (n + 1) xs ≡ Some k → from (n + 1) (xs ++ ys) ≡ Some k) → (b : Bool) → p x ≡ b → from n (x ∷ (xs ++ ys)) ≡ Some k
      by rest true passes = found_here n x (xs ++ ys) passes ∙ sym (found_here n x xs passes) ∙ found
      by rest false fails = passed_here n x (xs ++ ys) fails ∙ rest (sym (passed_here n x xs fails) ∙ found)

  -- where none is in a first part, it is looked for in the other
  pub passed_all : (n : ℕ) (xs ys : List X) → from n xs ≡ None → from n (xs ++ ys) ≡ from (n + length xs) ys
  passed_all n [] ys none = ap (λ m. from m ys) (omega arith)
  passed_all n (x ∷ xs) ys none = by (passed_all (n + 1) xs ys) (p x) refl
    where
      by : (from (n + 1) xs ≡ None → from (n + 1) (xs ++ ys) ≡ from (n + 1 + length xs) ys) → (b : Bool) → p x ≡ b
          → from n (x ∷ (xs ++ ys)) ≡ from (n + suc (length xs)) ys
      by rest true passes = absurd (none-some n (sym none ∙ found_here n x xs passes))
      by rest false fails =
          passed_here n x (xs ++ ys) fails ∙ rest (sym (passed_here n x xs fails) ∙ none) ∙ ap (λ m. from m ys) (omega arith)

-- ---- the methods of classes

abbrev passes : MethodTree → Bool
passes m = is_main (method_row m)

abbrev own_trees : ClassTree → List MethodTree
own_trees k = flat_map method_tree k.members

module _ (whole : Option ℕ) (n i : ℕ) (ks : List ClassTree) (k : ClassTree) (is : whole ≡ from passes n (flat_map own_trees (drop i ks))) (within : i < length ks) (item : k ≡ get_or ks i k) where
  next_class : whole ≡ from passes n (own_trees k ++ flat_map own_trees (drop (i + 1) ks))
  next_class =
      is ∙ at_drop_more (λ x. from passes n (flat_map own_trees x)) ks i k within
      ∙ ap (λ x. from passes n (own_trees x ++ flat_map own_trees (drop (i + 1) ks))) (sym item)

  pub found_in_class : (ms : List Member) (number : ℕ) → ms ≡ k.members → Some number ≡ from passes n (flat_map method_tree ms) → number ≡ unwrap_or whole 0
  found_in_class ms number own found =
      sym (ap (λ o. unwrap_or o 0) (next_class ∙ found_first passes n number (own_trees k) (flat_map own_trees (drop (i + 1) ks)) (sym (found ∙ ap (λ x. from passes n (flat_map method_tree x)) own))))

  pub not_in_class : (ms : List Member) (next : ℕ) → ms ≡ k.members → None ≡ from passes n (flat_map method_tree ms) → next ≡ n + length (flat_map method_tree ms)
      → whole ≡ from passes next (flat_map own_trees (drop (i + 1) ks))
  not_in_class ms next own none behind =
      next_class ∙ passed_all passes n (own_trees k) (flat_map own_trees (drop (i + 1) ks)) (sym (none ∙ ap (λ x. from passes n (flat_map method_tree x)) own))
      ∙ ap (λ m. from passes m (flat_map own_trees (drop (i + 1) ks))) (sym (behind ∙ ap (λ x. n + length (flat_map method_tree x)) own))
