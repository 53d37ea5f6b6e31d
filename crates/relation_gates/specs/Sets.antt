-- Internal: the three operations on sets, and the product of a set and a relation, as tests.
use Rattle.std.specs.Prelude.{ℕ, zero, suc, Bool, false, not, ◌&&◌, ◌||◌}
use Rattle.relation_gates.specs.declared.sets.Operation.{Operation}
use Rattle.relation_gates.specs.declared.sets.Operation.TheVariants.{Union, Inter, Minus}

-- whether a member of the first and of the second set is one of the result
abbrev pub combined : Operation → Bool → Bool → Bool
combined Union x y = x || y
combined Inter x y = x && y
combined Minus x y = x && not y

-- whether the test holds of a number below a bound
abbrev pub some_below : ℕ → (ℕ → Bool) → Bool
some_below zero test = false
some_below (suc n) test = some_below n test || test n
