-- Lemmas on the names of fields.
use Rattle.std.proofs.Common.{◌≡◌, ◌+◌, ◌++◌, ◌∷◌, [], true, false, ℕ, List, take, Some, sym, ◌∙◌}
use Rattle.std.specs.List.{slice_get, list_any}
use Rattle.std.proofs.lemmas.List.{map-append}
use Rattle.token_reading.specs.declared.fault.Fault.{Fault}
use Rattle.token_reading.specs.declared.fault.CheckError.{CheckError}
use Rattle.token_reading.specs.declared.fault.CheckError.TheVariants as error
use Rattle.class_table.specs.declared.row.FieldRow.{FieldRow}
use Rattle.class_table.specs.Names.{Name, same_name}
use Rattle.class_table.specs.Index.{field_names}
use Rattle.class_table.specs.Faults.{OfRule, Blames}
use Rattle.class_table.specs.Rules.{IsAmong, FieldAgain, same_field}
use Rattle.class_table.proofs.Faults.{any_map, differ, take_found}

pub names_more : (fields : List FieldRow) (n : ℕ) (f : FieldRow) → slice_get fields n ≡ Some f → field_names (take (n + 1) fields) ≡ field_names (take n fields) ++ f.name ∷ []
names_more fields n f found = rw (take_found fields n f found) (map-append (λ g. g.name) (take n fields) (f ∷ []))

pub among_names : (fields : List FieldRow) (f : FieldRow) → list_any (same_name f.name) (field_names fields) ≡ list_any (same_field f) fields
among_names fields f = any_map (same_name f.name) (λ g. g.name) fields

pub field_again : (fields : List FieldRow) (n : ℕ) (f : FieldRow) (names : List Name) (e : CheckError) → names ≡ field_names (take n fields) → Blames (OfRule 4 (IsAmong names f.name f.at)) e → Blames (OfRule 4 (FieldAgain fields n f)) e
field_again fields n f names error.OutOfMemory is h = tt
field_again fields n f names (error.Fault g) is h =
    let there : list_any (same_name f.name) (field_names (take n fields)) ≡ true = rw (← is) h.holds.0 in
    record { rule_is = h.rule_is; holds = (sym (among_names (take n fields) f) ∙ there, h.holds.1) }

pub not_again : (fields : List FieldRow) (n : ℕ) (f : FieldRow) (names : List Name) → names ≡ field_names (take n fields) → list_any (same_name f.name) names ≡ false → (g : Fault) → ¬ OfRule 4 (FieldAgain fields n f) g
not_again fields n f names is new g again =
    let old : list_any (same_name f.name) (field_names (take n fields)) ≡ false = rw (← is) new in
    differ (list_any (same_field f) (take n fields)) (sym (among_names (take n fields) f) ∙ old) again.holds.0
