-- Lemmas on the places of fields and the rows.
use Rattle.std.proofs.Common.{◌≡◌, ◌+◌, ◌-◌, ◌<◌, ◌≤◌, ◌∷◌, [], ℕ, zero, suc, List, drop, filter, flat_map, reverse, length, Option, Some, None, option_map, arith, sym, ◌∙◌, refl, ap}
use Rattle.std.specs.List.{slice_get}
use Rattle.std.specs.Option.{option_map_or}
use Rattle.std.proofs.lemmas.Option.{slice_get_within}
use Rattle.std.proofs.lemmas.List.{length-map}
use Rattle.std.proofs.lemmas.List.Sums.{sum_by-cons}
use Rattle.token_reading.specs.declared.fault.CheckError.{CheckError}
use Rattle.token_reading.specs.declared.fault.CheckError.TheVariants as error
use Rattle.class_table.specs.declared.declaration.Declaration.{Declaration}
use Rattle.class_table.specs.declared.row.FieldRow.{FieldRow}
use Rattle.class_table.specs.Members.{is_instance}
use Rattle.class_table.specs.Ancestors.{climb, line_at, line_of, parent_in, parents_of, superclasses}
use Rattle.class_table.specs.Faults.{Blames, Clear, OfRule}
use Rattle.class_table.specs.Fields.{fields_along, fields_at, instance_count, instance_total, numbered, part_at, placed_at, placed_from, placed_of}
use Rattle.class_table.specs.Rules.{TooManyFields}

climb_suc : (ps : List (Option ℕ)) (k n : ℕ) → climb ps (suc k) (Some n) ≡ n ∷ climb ps k (parent_in ps n)
unfolding climb
climb_suc ps k n = refl

-- a line begins with its class, and the way up from its superclass follows
pub line_climbs : (declared : List Declaration) (n : ℕ) (d : Declaration) → slice_get declared n ≡ Some d → line_at declared n ≡ n ∷ climb (parents_of declared) (length (parents_of declared) - 1) (parent_in (parents_of declared) n)
line_climbs declared n d found =
    let ps : List (Option ℕ) = parents_of declared in
    let within : n < length declared = slice_get_within declared n d found in
    let size : length ps ≡ length declared = length-map declared (λ e. e.parent) in
    let some : length ps ≡ suc (length ps - 1) = omega arith in
    let whole : line_of ps n ≡ n ∷ climb ps (length ps - 1) (parent_in ps n) = ap (λ m. climb ps m (Some n)) some ∙ climb_suc ps (length ps - 1) n in
    let is : line_at declared n ≡ line_of ps n = rw found refl in
    is ∙ whole

pub superclasses_are : (declared : List Declaration) (n : ℕ) (d : Declaration) → slice_get declared n ≡ Some d → superclasses declared n ≡ climb (parents_of declared) (length (parents_of declared) - 1) (parent_in (parents_of declared) n)
superclasses_are declared n d found = ap (drop 1) (line_climbs declared n d found)

-- a line begins with its class
pub line_opens : (declared : List Declaration) (n : ℕ) (d : Declaration) → slice_get declared n ≡ Some d → line_at declared n ≡ n ∷ superclasses declared n
line_opens declared n d found = line_climbs declared n d found ∙ ap (λ xs. n ∷ xs) (sym (superclasses_are declared n d found))

pub total_cons : (declared : List Declaration) (n : ℕ) (line : List ℕ) → instance_total declared (n ∷ line) ≡ instance_count declared n + instance_total declared line
total_cons declared n line = sum_by-cons (instance_count declared) n line

pub line_total : (declared : List Declaration) (n : ℕ) (d : Declaration) → slice_get declared n ≡ Some d → instance_total declared (line_at declared n) ≡ length (filter is_instance d.fields) + instance_total declared (superclasses declared n)
line_total declared n d found =
    let own : instance_count declared n ≡ length (filter is_instance d.fields) = rw found refl in
    ap (instance_total declared) (line_opens declared n d found) ∙ total_cons declared n (superclasses declared n) ∙ ap (λ k. k + instance_total declared (superclasses declared n)) own

pub many_above : (declared : List Declaration) (n : ℕ) (d : Declaration) (e : CheckError) → e ≡ error.Fault (record { rule = 9; at = d.at }) → slice_get declared n ≡ Some d → 255 < instance_total declared (superclasses declared n) → Blames (OfRule 9 (TooManyFields declared n d)) e
many_above declared n d e is found many =
    let all = line_total declared n d found in
    let more : 255 < instance_total declared (line_at declared n) = omega arith in
    rw is (record { rule_is = refl; holds = (more, refl) })

pub many_own : (declared : List Declaration) (n : ℕ) (d : Declaration) (e : CheckError) (start : ℕ) → e ≡ error.Fault (record { rule = 9; at = d.at }) → slice_get declared n ≡ Some d → start ≡ instance_total declared (superclasses declared n) → 255 - start < length (filter is_instance d.fields) → Blames (OfRule 9 (TooManyFields declared n d)) e
many_own declared n d e start is found starts many =
    let all = line_total declared n d found in
    let more : 255 < instance_total declared (line_at declared n) = omega arith in
    rw is (record { rule_is = refl; holds = (more, refl) })

pub few_fields : (declared : List Declaration) (n : ℕ) (d : Declaration) (start : ℕ) → slice_get declared n ≡ Some d → start ≡ instance_total declared (superclasses declared n) → start ≤ 255 → length (filter is_instance d.fields) ≤ 255 - start → Clear (OfRule 9 (TooManyFields declared n d))
few_fields declared n d start found starts low few = record {
  none = λ f h.
      let all = line_total declared n d found in
      let many : 255 < instance_total declared (line_at declared n) = h.holds.0 in
      omega arith;
}

pub placed_is : (declared : List Declaration) (n : ℕ) (d : Declaration) (start : ℕ) (rows : List FieldRow) → slice_get declared n ≡ Some d → start ≡ instance_total declared (superclasses declared n) → rows ≡ numbered start d.fields → rows ≡ placed_at declared n
placed_is declared n d start rows found starts is =
    let own : fields_at declared n ≡ d.fields = rw found refl in
    is ∙ rw (starts, ← own) refl

pub ruleset placing = (many_above, many_own, few_fields, placed_is)

-- ---- the parts of all classes

pub placed_from_at : (all declared : List Declaration) (n c : ℕ) → slice_get (placed_from all n declared) c ≡ option_map (λ d. placed_at all (n + c)) (slice_get declared c)
placed_from_at all [] n c = refl
placed_from_at all (d ∷ more) n zero = let e : n + 0 ≡ n = omega arith in rw e refl
placed_from_at all (d ∷ more) n (suc c) = let e : n + suc c ≡ (n + 1) + c = omega arith in rw e (placed_from_at all more (n + 1) c)

pub part_is : (declared : List Declaration) (c : ℕ) → part_at (placed_of declared) c ≡ placed_at declared c
part_is declared c =
    let e : 0 + c ≡ c = omega arith in
    let start : ℕ = instance_total declared (superclasses declared c) in
    let cases : (o : Option Declaration) → slice_get declared c ≡ o → option_map_or (λ part. part) (option_map (λ d. placed_at declared c) o) [] ≡ placed_at declared c =
    λ o. elim o as (λ v. slice_get declared c ≡ v → option_map_or (λ part. part) (option_map (λ d. placed_at declared c) v) [] ≡ placed_at declared c) [
      | None ↦ λ is. let none : fields_at declared c ≡ [] = rw is refl in sym (ap (numbered start) none)
      | Some d ↦ λ is. refl
    ] in
    rw (placed_from_at declared declared 0 c, e) (cases (slice_get declared c) refl)

flat_same : (f g : ℕ → List FieldRow) (xs : List ℕ) → ((x : ℕ) → f x ≡ g x) → flat_map f xs ≡ flat_map g xs
flat_same f g [] same = refl
flat_same f g (x ∷ xs) same = rw (same x, flat_same f g xs same) refl

pub parts_along : (declared : List Declaration) (parts : List (List FieldRow)) (line : List ℕ) → parts ≡ placed_of declared → flat_map (part_at parts) (reverse line) ≡ fields_along declared line
parts_along declared parts line is = rw is (flat_same (part_at (placed_of declared)) (placed_at declared) (reverse line) (part_is declared))
