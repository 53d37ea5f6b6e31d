-- Lemmas on the names of the classes.
use Rattle.std.proofs.Common.{◌≡◌, ◌+◌, ◌<◌, ◌≤◌, ◌++◌, ◌∷◌, [], append_assoc, true, false, ℕ, List, take, length, Some, arith, sym, ◌∙◌, refl, inl, inr}
use Rattle.std.specs.List.{slice_get, list_any}
use Rattle.std.proofs.lemmas.List.Folds.{list_any-append}
use Rattle.std.proofs.lemmas.List.{map-append}
use Rattle.std.proofs.lemmas.Option.{slice_get_within}
use Rattle.java_syntax.specs.declared.class.ClassTree.{ClassTree}
use Rattle.token_reading.specs.declared.fault.CheckError.{CheckError}
use Rattle.token_reading.specs.declared.fault.CheckError.TheVariants as error
use Rattle.class_table.specs.Names.{Name, same_name, built_in_names, library_names, class_names}
use Rattle.class_table.specs.Faults.{OfRule, Blames, Clear}
use Rattle.class_table.specs.Rules.{IsAmong, NameTaken, NameReserved, NamesFault, is_reserved}
use Rattle.class_table.proofs.Faults.{ClearBelow, clear_all, any_map, differ, take_found, or_left}

-- a name that isn't reserved and stands among those so far is that of an earlier class
pub earlier : (classes : List ClassTree) (name : Name) → is_reserved name ≡ false → list_any (same_name name) (class_names classes) ≡ list_any (λ d. same_name name d.name.name) classes
earlier classes name free =
    let outside : list_any (same_name name) built_in_names ≡ false = or_left _ (list_any (same_name name) library_names) free in
    simp (list_any-append, any_map, outside)

pub names_more : (classes : List ClassTree) (n : ℕ) (c : ClassTree) → slice_get classes n ≡ Some c → class_names (take (n + 1) classes) ≡ class_names (take n classes) ++ c.name.name ∷ []
names_more classes n c found = rw (take_found classes n c found) (simp (map-append, append_assoc))

pub name_taken : (classes : List ClassTree) (n : ℕ) (c : ClassTree) (names : List Name) (e : CheckError) → slice_get classes n ≡ Some c → is_reserved c.name.name ≡ false → names ≡ class_names (take n classes) → Blames (OfRule 1 (IsAmong names c.name.name c.name.at)) e → Blames (NamesFault classes) e
name_taken classes n c names error.OutOfMemory found free is h = tt
name_taken classes n c names (error.Fault f) found free is h =
    let there : list_any (same_name c.name.name) (class_names (take n classes)) ≡ true = rw (← is) h.holds.0 in
    inl (record { rule_is = h.rule_is; holds = record { number = n; element = c; found = found; holds = (sym (earlier (take n classes) c.name.name free) ∙ there, h.holds.1) } })

pub not_taken : (classes : List ClassTree) (n : ℕ) (c : ClassTree) (names : List Name) → is_reserved c.name.name ≡ false → names ≡ class_names (take n classes) → list_any (same_name c.name.name) names ≡ false → (at : ℕ) → ¬ NameTaken classes n c at
not_taken classes n c names free is new at taken =
    let old : list_any (same_name c.name.name) (class_names (take n classes)) ≡ false = rw (← is) new in
    let e : list_any (λ d. same_name c.name.name d.name.name) (take n classes) ≡ false = sym (earlier (take n classes) c.name.name free) ∙ old in
    let t : list_any (λ d. same_name c.name.name d.name.name) (take n classes) ≡ true = taken.0 in
    differ _ e t

pub not_reserved : (c : ClassTree) → is_reserved c.name.name ≡ false → (at : ℕ) → ¬ NameReserved c at
not_reserved c free at reserved = differ (is_reserved c.name.name) free reserved.0

pub name_reserved : (classes : List ClassTree) (n : ℕ) (c : ClassTree) (e : CheckError) → slice_get classes n ≡ Some c → Blames (OfRule 8 (NameReserved c)) e → Blames (NamesFault classes) e
name_reserved classes n c error.OutOfMemory found h = tt
name_reserved classes n c (error.Fault f) found h = inr (inl (record { rule_is = h.rule_is; holds = record { number = n; element = c; found = found; holds = h.holds } }))

pub beyond : (classes : List ClassTree) (c : ClassTree) → slice_get classes 1000 ≡ Some c → NamesFault classes (record { rule = 9; at = c.name.at })
beyond classes c found = inr (inr (record { rule_is = refl; holds = record { number = 1000; element = c; found = found; holds = (refl, refl) } }))

pub names_clear : (classes : List ClassTree) → length classes ≤ 1000 → ClearBelow classes (NameTaken classes) (length classes) → ClearBelow classes (λ number. NameReserved) (length classes) → Clear (NamesFault classes)
names_clear classes few taken reserved =
    let no_more : (k : ℕ) (c : ClassTree) → slice_get classes k ≡ Some c → k ≡ 1000 → ⊥ = λ k c found is. let within : k < length classes = slice_get_within classes k c found in omega arith in
    record {
      none = λ f h. elim h [
        | inl one ↦ clear_all classes _ taken _ one.holds
        | inr more ↦ elim more [
          | inl eight ↦ clear_all classes _ reserved _ eight.holds
          | inr nine ↦ absurd (no_more nine.holds.number nine.holds.element nine.holds.found nine.holds.holds.0)
        ]
      ];
    }

pub ruleset names_found = (name_taken, name_reserved, beyond, names_clear)
