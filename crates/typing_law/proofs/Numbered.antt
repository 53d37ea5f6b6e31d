-- Methods and constructors stand in the program at the numbers that the symbols give them.
use Rattle.std.proofs.Common.{◌≡◌, ◌∙◌, ℕ, zero, suc, ◌+◌, ◌-◌, ◌≤◌, false, List, [], ◌∷◌, ◌++◌, length, Some, slice_get, subst, sym, ap, arith}
use Rattle.std.specs.List.{flat_map}
use Rattle.std.proofs.lemmas.Option.{none-some, same_Some}
use Rattle.std.proofs.lemmas.Bool.{le-ltb}
use Rattle.std.proofs.lemmas.List.{append_assoc, length-append}
use Rattle.java_syntax.specs.declared.class.Member.{Member}
use Rattle.java_syntax.specs.declared.class.ClassTree.{ClassTree}
use Rattle.class_table.specs.declared.declaration.Declaration.{Declaration}
use Rattle.class_table.specs.declared.row.ClassRow.{ClassRow}
use Rattle.class_table.specs.Names.{Name, class_names}
use Rattle.class_table.specs.BuiltIn.{built_in}
use Rattle.class_table.specs.Declarations.{declaration, declarations, declared_of}
use Rattle.class_table.specs.Table.{row_of, rows_from}
use Rattle.java_names.specs.declared.numbers.Numbers.{Numbers}
use Rattle.core_tree.specs.BuiltIn.{is_built_in}
use Rattle.java_names.specs.Numbers.{numbers_after}
use Rattle.java_members.specs.Files.{of_members}
use Rattle.typing_law.proofs.Scopes.{get_before}
use Rattle.typing_law.proofs.Tables.{numbers_at}

-- what stands after some items
pub get_behind : {X : Type 0} (front xs : List X) (i : ℕ) → slice_get (front ++ xs) (length front + i) ≡ slice_get xs i
get_behind [] xs i = let e : 0 + i ≡ i = omega arith in ap (slice_get xs) e
get_behind (x ∷ front) xs i = let e : suc (length front) + i ≡ suc (length front + i) = omega arith in ap (slice_get (x ∷ front ++ xs)) e ∙ get_behind front xs i

-- a class of the file isn't built in
pub not_built_in : (n : ℕ) → 18 ≤ n → is_built_in n ≡ false
not_built_in n least = le-ltb n 18 least

module _ {X Y : Type 0} (give : ℕ → Member → List X) (own : List Member → List Y) (of_row : ClassRow → List Y) (count : Numbers → ℕ) (Is : ℕ → Y → X → Type 0)
    (of_row_is : (all : List Declaration) (known : List Name) (c : ℕ) (k : ClassTree) → of_row (row_of all c (declaration known c k)) ≡ own k.members)
    (counts : (n : ℕ) (numbers : Numbers) (row : ClassRow) → is_built_in n ≡ false → count (numbers_after n numbers row) ≡ count numbers + length (of_row row))
    (lengths : (c : ℕ) (members : List Member) → length (flat_map (give c) members) ≡ length (own members))
    (found : (c : ℕ) (members : List Member) (i : ℕ) (y : Y) → slice_get (own members) i ≡ Some y → (x : X) × (slice_get (flat_map (give c) members) i ≡ Some x) × Is c y x) where
  module _ (all : List Declaration) (known : List Name) where
    abbrev rows_of : ℕ → List ClassTree → List ClassRow
    rows_of n ks = rows_from all n (declarations known n ks)

    abbrev Stands : List X → ℕ → ℕ → Y → Type 0
    Stands xs number c y = (x : X) × (slice_get xs number ≡ Some x) × Is c y x

    file_at : (ks : List ClassTree) (n : ℕ) (numbers : Numbers) (front : List X) → count numbers ≡ length front → 18 ≤ n → (j i : ℕ) (row : ClassRow) (y : Y) → slice_get (rows_of n ks) j ≡ Some row → slice_get (of_row row) i ≡ Some y →
        Stands (front ++ of_members give n ks) (count (numbers_at n numbers (rows_of n ks) j) + i) (n + j) y
    unfolding of_members numbers_at
    file_at [] n numbers front counted least j i row y is is_y = absurd (none-some row is)
    file_at (k ∷ ks) n numbers front counted least zero i row y is is_y =
        let here = found n k.members i y (ap (λ ys. slice_get ys i) (sym (of_row_is all known n k)) ∙ ap (λ r. slice_get (of_row r) i) (same_Some _ _ is) ∙ is_y) in
        let e : n ≡ n + 0 = omega arith in (
          here.0,
          ap (λ m. slice_get (front ++ (flat_map (give n) k.members ++ of_members give (suc n) ks)) (m + i)) counted ∙ get_behind front (flat_map (give n) k.members ++ of_members give (suc n) ks) i ∙ get_before (flat_map (give n) k.members) (of_members give (suc n) ks) i here.0 here.1,
          subst (λ m. Is m y here.0) e here.2,
        )
    file_at (k ∷ ks) n numbers front counted least (suc j) i row y is is_y =
        let first = row_of all n (declaration known n k) in
        let later = numbers_after n numbers first in
        let mine = flat_map (give n) k.members in
        let lengths_are : length (of_row first) ≡ length mine = ap length (of_row_is all known n k) ∙ sym (lengths n k.members) in
        let counted_on : count later ≡ length (front ++ mine) = counts n numbers first (not_built_in n least) ∙ ap (λ m. m + length (of_row first)) counted ∙ ap (λ m. length front + m) lengths_are ∙ sym (length-append front mine) in
        let more = file_at ks (n + 1) later (front ++ mine) counted_on (omega arith) j i row y is is_y in
        let one : n + 1 ≡ suc n = omega arith in
        let e : n + 1 + j ≡ n + suc j = omega arith in (
          more.0,
          ap (λ xs. slice_get xs (count (numbers_at (n + 1) later (rows_of (n + 1) ks) j) + i)) (sym (append_assoc front mine (of_members give (suc n) ks)) ∙ ap (λ m. (front ++ mine) ++ of_members give m ks) (sym one)) ∙ more.1,
          subst (λ m. Is m y more.0) e more.2,
        )

  -- the rows of a file after the built-in ones
  behind : (ks : List ClassTree) (numbers : Numbers) → count numbers ≡ 0 → (j i : ℕ) (row : ClassRow) (y : Y) → slice_get (rows_from (declared_of ks) 0 (declared_of ks)) (suc (suc (suc (suc (suc (suc (suc (suc (suc (suc (suc (suc (suc (suc (suc (suc (suc (suc j)))))))))))))))))) ≡ Some row → slice_get (of_row row) i ≡ Some y →
      (x : X) × (slice_get (of_members give 18 ks) (count (numbers_at 0 numbers (rows_from (declared_of ks) 0 (declared_of ks)) (suc (suc (suc (suc (suc (suc (suc (suc (suc (suc (suc (suc (suc (suc (suc (suc (suc (suc j))))))))))))))))))) + i) ≡ Some x) × Is (18 + j) y x
  unfolding declared_of built_in numbers_at
  behind ks numbers counted j i row y is is_y = file_at (declared_of ks) (class_names ks) ks 18 numbers [] counted (omega arith) j i row y is is_y

  pub stands_at : (ks : List ClassTree) (numbers : Numbers) → count numbers ≡ 0 → (c i : ℕ) (row : ClassRow) (y : Y) → 18 ≤ c → slice_get (rows_from (declared_of ks) 0 (declared_of ks)) c ≡ Some row → slice_get (of_row row) i ≡ Some y →
      (x : X) × (slice_get (of_members give 18 ks) (count (numbers_at 0 numbers (rows_from (declared_of ks) 0 (declared_of ks)) c) + i) ≡ Some x) × Is c y x
  stands_at ks numbers counted c i row y least is is_y =
      let shape : suc (suc (suc (suc (suc (suc (suc (suc (suc (suc (suc (suc (suc (suc (suc (suc (suc (suc (c - 18)))))))))))))))))) ≡ c = omega arith in
      let place : 18 + (c - 18) ≡ c = omega arith in
      let there = behind ks numbers counted (c - 18) i row y (ap (slice_get (rows_from (declared_of ks) 0 (declared_of ks))) shape ∙ is) is_y in (
        there.0,
        ap (λ k. slice_get (of_members give 18 ks) (count (numbers_at 0 numbers (rows_from (declared_of ks) 0 (declared_of ks)) k) + i)) (sym shape) ∙ there.1,
        subst (λ k. Is k y there.0) place there.2,
      )
