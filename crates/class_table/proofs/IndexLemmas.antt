-- Lemmas on what is looked up in the classes.
use Rattle.std.proofs.Common.{◌≡◌, ◌+◌, ℕ, zero, suc, List, [], ◌∷◌, map, drop, filter, length, Option, Some, None, option_map, option_and_then, find, position, cond, not, nat_lt, Bool, true, false, arith, sym, ◌∙◌, refl}
use Rattle.std.specs.List.{slice_get, list_any}
use Rattle.std.specs.Option.{option_map_or}
use Rattle.std.specs.List.{position_or_len, prefix_len}
use Rattle.std.proofs.lemmas.Bool.Decides.{nat_tests}
use Rattle.std.proofs.lemmas.List.{length-map}
use Rattle.std.proofs.lemmas.List.Folds.{find_at}
use Rattle.std.proofs.lemmas.Option.{slice_get-map, slice_get_past}
use Rattle.class_table.specs.declared.declaration.Declaration.{Declaration}
use Rattle.class_table.specs.declared.index.Index.{Index}
use Rattle.class_table.specs.declared.row.FieldRow.{FieldRow}
use Rattle.class_table.specs.declared.row.MethodRow.{MethodRow}
use Rattle.class_table.specs.declared.row.Signature.{Signature}
use Rattle.class_table.specs.Names.{same_name}
use Rattle.class_table.specs.Ancestors.{parents_of, line_of, line_at, superclasses}
use Rattle.class_table.specs.Members.{is_instance}
use Rattle.class_table.specs.Fields.{fields_at, instance_count}
use Rattle.class_table.specs.Lines.{lines_from, lines_of}
use Rattle.class_table.specs.Index.{IsIndex, field_names, signature_of, same_signature, signatures}
use Rattle.class_table.specs.Rules.{same_field, method_called}
use Rattle.class_table.proofs.Faults.{any_map}

-- the names at a class are those of its fields
pub field_names_at : (index : Index) (c : ℕ) (f : FieldRow) → IsIndex index → option_map_or (list_any (same_name f.name)) (slice_get index.fields c) false ≡ list_any (same_field f) (fields_at index.declared c)
field_names_at index c f is =
    let cases : (o : Option Declaration) → option_map_or (list_any (same_name f.name)) (option_map (λ (d : Declaration). field_names d.fields) o) false ≡ list_any (same_field f) (option_map_or (λ d. d.fields) o []) =
    λ o. elim o as (λ v. option_map_or (list_any (same_name f.name)) (option_map (λ (d : Declaration). field_names d.fields) v) false ≡ list_any (same_field f) (option_map_or (λ d. d.fields) v [])) [
      | None ↦ refl
      | Some d ↦ any_map (same_name f.name) (λ g. g.name) d.fields
    ] in
    rw (is.fields_are, slice_get-map (λ (d : Declaration). field_names d.fields) index.declared c) (cases (slice_get index.declared c))

pub lines_from_at : (ps : List (Option ℕ)) (declared : List Declaration) (n c : ℕ) → slice_get (lines_from ps n declared) c ≡ option_map (λ d. line_of ps (n + c)) (slice_get declared c)
lines_from_at ps [] n c = refl
lines_from_at ps (d ∷ more) n zero = let e : n + 0 ≡ n = omega arith in rw e refl
lines_from_at ps (d ∷ more) n (suc c) = let e : n + suc c ≡ (n + 1) + c = omega arith in rw e (lines_from_at ps more (n + 1) c)

-- the line that stands at a class
pub line_is_at : (declared : List Declaration) (c : ℕ) → option_map_or (λ line. line) (slice_get (lines_of declared) c) [] ≡ line_at declared c
line_is_at declared c =
    let ps = parents_of declared in
    let e : 0 + c ≡ c = omega arith in
    let cases : (o : Option Declaration) → option_map_or (λ line. line) (option_map (λ d. line_of ps c) o) [] ≡ option_map_or (λ d. line_of ps c) o [] =
    λ o. elim o as (λ v. option_map_or (λ line. line) (option_map (λ d. line_of ps c) v) [] ≡ option_map_or (λ d. line_of ps c) v []) [ None ↦ refl | Some d ↦ refl ] in
    rw (lines_from_at ps declared 0 c, e) (cases (slice_get declared c))

pub superclasses_at : (index : Index) (c : ℕ) → IsIndex index → drop 1 (option_map_or (λ line. line) (slice_get index.lines c) []) ≡ superclasses index.declared c
superclasses_at index c is = rw (is.lines_are, line_is_at index.declared c) refl

pub line_of_index : (index : Index) (c : ℕ) → IsIndex index → option_map_or (λ line. line) (slice_get index.lines c) [] ≡ line_at index.declared c
line_of_index index c is = rw (is.lines_are) (line_is_at index.declared c)

pub count_at_index : (index : Index) (c : ℕ) → IsIndex index → option_map_or (λ n. n) (slice_get index.counts c) 0 ≡ instance_count index.declared c
count_at_index index c is =
    let count : Declaration → ℕ = λ d. length (filter is_instance d.fields) in
    let cases : (o : Option Declaration) → option_map_or (λ n. n) (option_map count o) 0 ≡ length (filter is_instance (option_map_or (λ d. d.fields) o [])) =
    λ o. elim o as (λ v. option_map_or (λ n. n) (option_map count v) 0 ≡ length (filter is_instance (option_map_or (λ d. d.fields) v []))) [ None ↦ refl | Some d ↦ refl ] in
    rw (is.counts_are, slice_get-map count index.declared c) (cases (slice_get index.declared c))

prefix_map : {A B : Type 0} (q : B → Bool) (f : A → B) (xs : List A) → prefix_len q (map f xs) ≡ prefix_len (λ x. q (f x)) xs
prefix_map q f [] = refl
prefix_map q f (x ∷ xs) = rw (prefix_map q f xs) refl

-- the first element that passes a test stands at the first place where its image does
pub find_position : {A B : Type 0} (p : B → Bool) (f : A → B) (xs : List A) → find (λ x. p (f x)) xs ≡ option_and_then (slice_get xs) (position p (map f xs))
find_position p f xs =
    let n : ℕ = position_or_len (λ x. p (f x)) xs in
    let same : position_or_len p (map f xs) ≡ n = prefix_map (λ y. not (p y)) f xs in
    let size : length (map f xs) ≡ length xs = length-map xs f in
    let at : find (λ x. p (f x)) xs ≡ slice_get xs n = find_at (λ x. p (f x)) xs in
    let cases : (b : Bool) → nat_lt n (length xs) ≡ b → slice_get xs n ≡ option_and_then (slice_get xs) (cond b (Some n) None) =
    λ b. elim b as (λ v. nat_lt n (length xs) ≡ v → slice_get xs n ≡ option_and_then (slice_get xs) (cond v (Some n) None)) [
      | true ↦ λ is. refl
      | false ↦ λ is. slice_get_past xs n (grind (arith, nat_tests))
    ] in
    at ∙ rw (same, size) (cases (nat_lt n (length xs)) refl)

called_as : (index : Index) (c : ℕ) (key : Signature) → IsIndex index → (o : Option Declaration) → slice_get index.declared c ≡ o → method_called index.declared key c ≡ option_and_then (λ place. option_and_then (λ d. slice_get d.methods place) (slice_get index.declared c)) (option_and_then (position (same_signature key)) (option_map (λ (d : Declaration). signatures d.methods) (slice_get index.declared c)))
called_as index c key is None e = rw e refl
called_as index c key is (Some d) e = rw e (find_position (same_signature key) signature_of d.methods)

-- the method at the place of its signature
called : (index : Index) (c : ℕ) (key : Signature) → IsIndex index → method_called index.declared key c ≡ option_and_then (λ place. option_and_then (λ d. slice_get d.methods place) (slice_get index.declared c)) (option_and_then (position (same_signature key)) (slice_get index.methods c))
called index c key is =
    let e : slice_get index.methods c ≡ option_map (λ (d : Declaration). signatures d.methods) (slice_get index.declared c) = rw (is.methods_are) (slice_get-map (λ (d : Declaration). signatures d.methods) index.declared c) in
    rw e (called_as index c key is (slice_get index.declared c) refl)

pub called_at : (index : Index) (c : ℕ) (key : Signature) (place : ℕ) (found : Option MethodRow) → IsIndex index → option_and_then (position (same_signature key)) (slice_get index.methods c) ≡ Some place → found ≡ option_and_then (λ d. slice_get d.methods place) (slice_get index.declared c) → found ≡ method_called index.declared key c
called_at index c key place found is at got = got ∙ sym (called index c key is ∙ rw at refl)

pub called_nowhere : (index : Index) (c : ℕ) (key : Signature) → IsIndex index → option_and_then (position (same_signature key)) (slice_get index.methods c) ≡ None → None ≡ method_called index.declared key c
called_nowhere index c key is at = sym (called index c key is ∙ rw at refl)
