-- What follows where no fault is listed.
use Rattle.std.proofs.Common.{◌≡◌, ℕ, Bool, true, false, List, [], ◌∷◌, ◌++◌, refl}
use Rattle.token_reading.specs.declared.fault.Fault.{Fault}
use Rattle.java_exprs.specs.Attr.{unless, only_if, of_rule}

-- both of two lists are empty
pub empty_parts : {X : Type 0} (xs ys : List X) → xs ++ ys ≡ [] → (xs ≡ []) × (ys ≡ [])
empty_parts [] ys e = (refl, e)
empty_parts (x ∷ xs) ys e = absurd (cc)

-- a rule has no places, and there are no other faults
pub empty_rule : (k : ℕ) (ats : List ℕ) (more : List Fault) → of_rule k ats more ≡ [] → (ats ≡ []) × (more ≡ [])
empty_rule k [] more e = (refl, e)
empty_rule k (at ∷ ats) more e = absurd (cc)

-- a test whose failure is a fault holds
pub unless_empty : (b : Bool) (at : ℕ) → unless b at ≡ [] → b ≡ true
unless_empty true at e = refl
unless_empty false at e = absurd (cc)

pub only_if_empty : (b : Bool) (at : ℕ) → only_if b at ≡ [] → b ≡ false
only_if_empty true at e = absurd (cc)
only_if_empty false at e = refl

-- a place is a fault
pub no_place : (at : ℕ) (ats : List ℕ) {Q : Type 0} → ◌≡◌ {A = List ℕ} (at ∷ ats) [] → Q
no_place at ats e = absurd (cc)
