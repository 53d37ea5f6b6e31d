-- Lemmas on arguments.
use Rattle.std.proofs.Common.{◌≡◌, ◌∙◌, List, [], ◌∷◌, ◌++◌, map, reverse, ap}
use Rattle.std.proofs.lemmas.List.{map-append, reverse-append}
use Rattle.java_exprs.specs.declared.value.Value.{Value}

-- the last one's expression, before those of the others
pub last_core : (vs : List Value) (v : Value) → reverse (map (λ v. v.core) (vs ++ v ∷ [])) ≡ v.core ∷ reverse (map (λ v. v.core) vs)
last_core vs v = ap reverse (map-append (λ v. v.core) vs (v ∷ [])) ∙ reverse-append (map (λ v. v.core) vs) (v.core ∷ [])
