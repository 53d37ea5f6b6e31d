-- A fault of one item of a list is a fault of the list.
use Rattle.std.proofs.Common.{◌≡◌, sym, subst, ℕ, zero, suc, ◌<◌, List, [], ◌∷◌, flat_map, length, get_or, arith}
use Rattle.token_reading.specs.declared.fault.Fault.{Fault}
use Rattle.token_reading.specs.declared.fault.CheckError.{CheckError}
use Rattle.java_exprs.specs.Attr.{of_rule}
use Rattle.java_names.specs.Refusals.{Refuses}
use Rattle.java_names.proofs.RefusalLemmas.{refuses_left, refuses_right}
use Rattle.java_exprs.proofs.RulesLemmas.{refuses_here, refuses_there, both_places}

-- the faults of an item
pub refuses_item : {X : Type 0} (f : X → List Fault) (xs : List X) (i : ℕ) (x : X) (e : CheckError)
    → i < length xs → x ≡ get_or xs i x → Refuses (f x) e → Refuses (flat_map f xs) e
refuses_item f [] i x e within is h = absurd (omega (arith, within))
refuses_item f (y ∷ xs) zero x e within is h = refuses_left (f y) (flat_map f xs) e (subst (λ z. Refuses (f z) e) is h)
refuses_item f (y ∷ xs) (suc i) x e within is h = refuses_right (f y) (flat_map f xs) e (refuses_item f xs i x e (omega (arith, within)) is h)

-- the places of an item, of one rule
pub refuses_place : {X : Type 0} (k : ℕ) (f : X → List ℕ) (xs : List X) (i : ℕ) (x : X) (e : CheckError)
    → i < length xs → x ≡ get_or xs i x → Refuses (of_rule k (f x) []) e → Refuses (of_rule k (flat_map f xs) []) e
refuses_place k f [] i x e within is h = absurd (omega (arith, within))
refuses_place k f (y ∷ xs) zero x e within is h =
    subst (λ fs. Refuses fs e) (sym (both_places k (f y) (flat_map f xs) [])) (refuses_here k (f y) (of_rule k (flat_map f xs) []) e (subst (λ z. Refuses (of_rule k (f z) []) e) is h))
refuses_place k f (y ∷ xs) (suc i) x e within is h =
    subst (λ fs. Refuses fs e) (sym (both_places k (f y) (flat_map f xs) [])) (refuses_there k (f y) (of_rule k (flat_map f xs) []) e (refuses_place k f xs i x e (omega (arith, within)) is h))
