-- Lemmas on the constants that were read.
use Rattle.std.proofs.Common.{◌≡◌, ℕ, ◌==◌, Bool, true, false, true≢false, cond, nat_eq, List, [], ◌∷◌, ◌++◌, Option, Some, None, is_some, find, option_map, refl, arith}
use Rattle.std.specs.Map.{lookup}
use Rattle.indexmap.specs.IndexMap.{IndexMap, insert_entry}
use Rattle.indexmap.proofs.CallerLemmas.{insert_entry-new}

same_number : (a b : ℕ) → nat_eq a b ≡ (b == a)
same_number a b = grind arith

chosen : {X : Type 0} (b : Bool) (e : ℕ × X) (rest : Option (ℕ × X)) → cond b (Some e.1) (option_map (λ c. c.1) rest) ≡ option_map (λ c. c.1) (cond b (Some e) rest)
chosen true e rest = refl
chosen false e rest = refl

-- the value of the first entry with a key, found by another test
pub found_value : {X : Type 0} (at : ℕ) (entries : List (ℕ × X)) → lookup (nat_eq at) entries ≡ option_map (λ c. c.1) (find (λ c. c.0 == at) entries)
found_value at [] = refl
found_value at (e ∷ es) = rw (same_number at e.0, found_value at es) (chosen (e.0 == at) e (find (λ c. c.0 == at) es))

pub ruleset lookups = (found_value)

-- ---- one constant more

none_is : {X : Type 0} (o : Option X) → is_some o ≡ false → o ≡ None
none_is None h = refl
none_is (Some x) h = absurd (true≢false h)

-- the constants with one more, of which there was none
pub entries_with : {K X S : Type 0} (eq : K → K → Bool) (m : IndexMap K X S) (k : K) (v : X) → is_some (lookup (eq k) m.entries) ≡ false → insert_entry eq m.entries k v ≡ m.entries ++ (k, v) ∷ []
entries_with eq m k v none = insert_entry-new eq m k v (none_is (lookup (eq k) m.entries) none)

pub ruleset new_constant = (entries_with)
