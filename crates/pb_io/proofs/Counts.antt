-- Counts of refused calls, over several calls.
use Rattle.std.proofs.Common.{◌≡◌, ℕ, Result, Ok, Err, refl, subst, ap, arith}
use Rattle.pb_io.specs.Faults.{Counts}

-- where nothing was called the count stands
pub Counts-none : {T E : Type 0} (error : E) (count : ℕ) (value : T) → Counts error count count (Ok value)
Counts-none error count value = record { later = omega arith; rose = λ is. cc; stands = λ _. refl }

-- a call that wasn't refused leaves the count
pub Counts-ok : {T E : Type 0} (error : E) (before now : ℕ) (value : T) → Counts error before now (Ok value) → now ≡ before
Counts-ok error before now value counts = counts.stands (λ is. cc)

-- a call that wasn't refused, and then another call
pub Counts-then : {T U E : Type 0} (error : E) (a b c : ℕ) (value : T) (result : Result U E) → Counts error a b (Ok value) → Counts error b c result → Counts error a c result
Counts-then error a b c value result first second = subst (λ count. Counts error count c result) (Counts-ok error a b value first) second

-- the error that a call answered, handed on
pub Counts-stop : {T U E : Type 0} (error : E) (before now : ℕ) (answered : E) → Counts {T = T} error before now (Err answered) → Counts {T = U} error before now (Err answered)
Counts-stop error before now answered counts = record {
  later = counts.later;
  rose = λ is. counts.rose (let same : answered ≡ error = cc in ap Err same);
  stands = λ other. counts.stands (λ is. other (let same : answered ≡ error = cc in ap Err same));
}
