-- Lemmas on what methods and constructors are called by.
use Rattle.std.proofs.Common.{◌≡◌, ◌==◌, ◌+◌, ◌++◌, ◌∷◌, [], true, false, nat_eq, ℕ, List, take, length, Some, sym, ◌∙◌}
use Rattle.std.specs.List.{slice_get, list_any}
use Rattle.std.proofs.lemmas.List.{map-append}
use Rattle.token_reading.specs.declared.fault.Fault.{Fault}
use Rattle.token_reading.specs.declared.fault.CheckError.{CheckError}
use Rattle.token_reading.specs.declared.fault.CheckError.TheVariants as error
use Rattle.class_table.specs.declared.row.MethodRow.{MethodRow}
use Rattle.class_table.specs.declared.row.MakerRow.{MakerRow}
use Rattle.class_table.specs.declared.row.Signature.{Signature}
use Rattle.class_table.specs.Index.{signature_of, signatures, same_signature, arities}
use Rattle.class_table.specs.Members.{called_alike}
use Rattle.class_table.specs.Faults.{OfRule, Blames}
use Rattle.class_table.specs.Rules.{SignatureAmong, ArityAmong, CalledAlike, SameArity}
use Rattle.class_table.proofs.Faults.{any_map, differ, take_found}

pub method_more : (xs : List MethodRow) (n : ℕ) (x : MethodRow) → slice_get xs n ≡ Some x → signatures (take (n + 1) xs) ≡ signatures (take n xs) ++ signature_of x ∷ []
method_more xs n x found = rw (take_found xs n x found) (map-append (signature_of) (take n xs) (x ∷ []))

pub method_among : (xs : List MethodRow) (x : MethodRow) → list_any (same_signature (signature_of x)) (signatures xs) ≡ list_any (called_alike x) xs
method_among xs x = any_map (same_signature (signature_of x)) (signature_of) xs

pub method_again : (xs : List MethodRow) (n : ℕ) (x : MethodRow) (keys : List Signature) (e : CheckError) → keys ≡ signatures (take n xs) → Blames (OfRule 5 (SignatureAmong keys x)) e → Blames (OfRule 5 (CalledAlike xs n x)) e
method_again xs n x keys error.OutOfMemory is h = tt
method_again xs n x keys (error.Fault g) is h =
    let there : list_any (same_signature (signature_of x)) (signatures (take n xs)) ≡ true = rw (← is) h.holds.0 in
    record { rule_is = h.rule_is; holds = (sym (method_among (take n xs) x) ∙ there, h.holds.1) }

pub method_new : (xs : List MethodRow) (n : ℕ) (x : MethodRow) (keys : List Signature) → keys ≡ signatures (take n xs) → list_any (same_signature (signature_of x)) keys ≡ false → (g : Fault) → ¬ OfRule 5 (CalledAlike xs n x) g
method_new xs n x keys is new g again =
    let old : list_any (same_signature (signature_of x)) (signatures (take n xs)) ≡ false = rw (← is) new in
    differ (list_any (called_alike x) (take n xs)) (sym (method_among (take n xs) x) ∙ old) again.holds.0

pub maker_more : (xs : List MakerRow) (n : ℕ) (x : MakerRow) → slice_get xs n ≡ Some x → arities (take (n + 1) xs) ≡ arities (take n xs) ++ length x.params ∷ []
maker_more xs n x found = rw (take_found xs n x found) (map-append (λ m. length m.params) (take n xs) (x ∷ []))

pub maker_among : (xs : List MakerRow) (x : MakerRow) → list_any (nat_eq (length x.params)) (arities xs) ≡ list_any (λ other. length x.params == length other.params) xs
maker_among xs x = any_map (nat_eq (length x.params)) (λ m. length m.params) xs

pub maker_again : (xs : List MakerRow) (n : ℕ) (x : MakerRow) (keys : List ℕ) (e : CheckError) → keys ≡ arities (take n xs) → Blames (OfRule 5 (ArityAmong keys x)) e → Blames (OfRule 5 (SameArity xs n x)) e
maker_again xs n x keys error.OutOfMemory is h = tt
maker_again xs n x keys (error.Fault g) is h =
    let there : list_any (nat_eq (length x.params)) (arities (take n xs)) ≡ true = rw (← is) h.holds.0 in
    record { rule_is = h.rule_is; holds = (sym (maker_among (take n xs) x) ∙ there, h.holds.1) }

pub maker_new : (xs : List MakerRow) (n : ℕ) (x : MakerRow) (keys : List ℕ) → keys ≡ arities (take n xs) → list_any (nat_eq (length x.params)) keys ≡ false → (g : Fault) → ¬ OfRule 5 (SameArity xs n x) g
maker_new xs n x keys is new g again =
    let old : list_any (nat_eq (length x.params)) (arities (take n xs)) ≡ false = rw (← is) new in
    differ (list_any (λ other. length x.params == length other.params) (take n xs)) (sym (maker_among (take n xs) x) ∙ old) again.holds.0
