-- The fields of a table's rows: what is known of each, and where they stand.
use Rattle.std.proofs.Common.{◌≡◌, ◌∙◌, ℕ, zero, suc, ◌+◌, ◌<◌, Bool, true, false, List, [], ◌∷◌, ◌++◌, length, map, Some, None, option_map, slice_get, refl, subst, sym, ap, arith, if◌then◌else◌}
use Rattle.std.specs.Prelude.{filter}
use Rattle.std.specs.List.{flat_map, range_with_len}
use Rattle.std.proofs.lemmas.Option.{none-some, same_Some, slice_get-map, slice_get_within}
use Rattle.class_table.specs.declared.row.FieldRow.{FieldRow}
use Rattle.class_table.specs.Fields.{numbered}
use Rattle.class_table.specs.Members.{is_instance}
use Rattle.class_table.specs.TableFacts.{places}
use Rattle.typing_law.proofs.Found.{range_at}

-- ---- lists

-- P holds of each item
abbrev pub Each : {X : Type 0} → (X → Type 0) → List X → Type 0
Each {X = X} P xs = (k : ℕ) (x : X) → slice_get xs k ≡ Some x → P x

pub each_append : {X : Type 0} (P : X → Type 0) (xs ys : List X) → Each P xs → Each P ys → (k : ℕ) (x : X) → slice_get (xs ++ ys) k ≡ Some x → P x
each_append P [] ys front back k x is = back k x is
each_append P (y ∷ xs) ys front back zero x is = front zero x is
each_append P (y ∷ xs) ys front back (suc k) x is = each_append P xs ys (λ k. front (suc k)) back k x is

pub each_flat : {X : Type 0} (P : X → Type 0) (give : ℕ → List X) → ((d : ℕ) → Each P (give d)) → (line : List ℕ) (k : ℕ) (x : X) → slice_get (flat_map give line) k ≡ Some x → P x
each_flat P give each [] k x is = absurd (none-some x is)
each_flat P give each (d ∷ line) k x is = each_append P (give d) (flat_map give line) (each d) (each_flat P give each line) k x is

-- what stands in a filtered list stands in the list
abbrev pub InFilter : {X : Type 0} → (X → Bool) → List X → X → Type 0
InFilter test xs x = (j : ℕ) × (slice_get xs j ≡ Some x) × (test x ≡ true)

pub filtered : {X : Type 0} (test : X → Bool) (xs : List X) (k : ℕ) (x : X) → slice_get (filter test xs) k ≡ Some x → InFilter test xs x
filtered test [] k x is = absurd (none-some x is)
filtered test (y ∷ xs) k x is = cases (filtered test xs) (test y) refl k is
  where
    cases : ((k : ℕ) (x : _) → slice_get (filter test xs) k ≡ Some x → InFilter test xs x) → (b : Bool) → test y ≡ b → (k : ℕ) → slice_get (if b then y ∷ filter test xs else filter test xs) k ≡ Some x → InFilter test (y ∷ xs) x
    cases more true holds zero is = (zero, is, ap test (sym (same_Some y x is)) ∙ holds)
    cases more true holds (suc k) is = let there = more k x is in (suc there.0, there.1, there.2)
    cases more false fails k is = let there = more k x is in (suc there.0, there.1, there.2)

pub in_filter : {X : Type 0} (test : X → Bool) (xs : List X) (j : ℕ) (x : X) → slice_get xs j ≡ Some x → test x ≡ true → (k : ℕ) × (slice_get (filter test xs) k ≡ Some x)
in_filter test [] j x is holds = absurd (none-some x is)
in_filter test (y ∷ xs) zero x is holds =
    let here : test y ≡ true = ap test (same_Some y x is) ∙ holds in
    (zero, ap (λ b. slice_get (if b then y ∷ filter test xs else filter test xs) 0) here ∙ is)
in_filter test (y ∷ xs) (suc j) x is holds = cases (in_filter test xs j x is holds) (test y) refl
  where
    cases : (k : ℕ) × (slice_get (filter test xs) k ≡ Some x) → (b : Bool) → test y ≡ b → (k : ℕ) × (slice_get (if b then y ∷ filter test xs else filter test xs) k ≡ Some x)
    cases there true first = (suc there.0, there.1)
    cases there false first = there

-- ---- fields with their places

-- what is known of the fields of a class is known of them with their places
pub each_numbered : (P Q : FieldRow → Type 0) → ((f : FieldRow) → Q f → (n : ℕ) → is_instance f ≡ true → P (record f { place = Some n })) → ((f : FieldRow) → Q f → is_instance f ≡ false → P (record f { place = None })) →
    (n : ℕ) (fields : List FieldRow) → Each Q fields → (k : ℕ) (x : FieldRow) → slice_get (numbered n fields) k ≡ Some x → P x
each_numbered P Q on off n [] each k x is = absurd (none-some x is)
each_numbered P Q on off n (f ∷ more) each k x is =
    cases (is_instance f) refl (each_numbered P Q on off (n + 1) more (λ k. each (suc k))) (each_numbered P Q on off n more (λ k. each (suc k))) k is
  where
    cases : (b : Bool) → is_instance f ≡ b → Each P (numbered (n + 1) more) → Each P (numbered n more) → (k : ℕ) → slice_get (if b then record f { place = Some n } ∷ numbered (n + 1) more else record f { place = None } ∷ numbered n more) k ≡ Some x → P x
    cases true holds behind same zero is = subst P (same_Some _ x is) (on f (each zero f refl) n holds)
    cases true holds behind same (suc k) is = behind k x is
    cases false fails behind same zero is = subst P (same_Some _ x is) (off f (each zero f refl) fails)
    cases false fails behind same (suc k) is = same k x is

-- where the places of instance fields are their numbers, a field stands at its place
pub instance_at : (fields : List FieldRow) (j place : ℕ) (f : FieldRow) → places fields ≡ map Some (range_with_len 0 (length (filter is_instance fields))) → slice_get fields j ≡ Some f → is_instance f ≡ true → f.place ≡ Some place →
    slice_get (filter is_instance fields) place ≡ Some f
instance_at fields j place f placed is instance is_place =
    let there = in_filter is_instance fields j f is instance in
    let instances = filter is_instance fields in
    let within : there.0 < length instances = slice_get_within instances there.0 f there.1 in
    let said : slice_get (places fields) there.0 ≡ Some f.place = slice_get-map (λ f. f.place) instances there.0 ∙ ap (option_map (λ f. f.place)) there.1 in
    let numbered : slice_get (map Some (range_with_len 0 (length instances))) there.0 ≡ Some (Some (0 + there.0)) = slice_get-map Some (range_with_len 0 (length instances)) there.0 ∙ ap (option_map Some) (range_at 0 (length instances) there.0 within) in
    let same : Some place ≡ Some (0 + there.0) = sym is_place ∙ same_Some _ _ (sym said ∙ ap (λ ps. slice_get ps there.0) placed ∙ numbered) in
    let start : 0 + there.0 ≡ there.0 = omega arith in
    ap (slice_get instances) (same_Some _ _ same ∙ start) ∙ there.1
