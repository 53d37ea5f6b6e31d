-- What a sequence of two readers reads.
use Rattle.std.proofs.Common.{◌≡◌, Bool, true, false, if◌then◌else◌, List, Result, Ok, Err, refl, sym}
use Rattle.std.specs.Result.{IsErrAnd}
use Rattle.token_reading.specs.Lexeme.{Lexeme}
use Rattle.token_reading.specs.Outcome.{Outcome, Parser, ◌>>=◌}
use Rattle.token_reading.specs.declared.refusal.Refusal.{Refusal}
use Rattle.token_reading.specs.declared.refusal.Refusal.TheVariants as refusal
use Rattle.token_reading.specs.Reads.{Fails, Reads}

-- the result of a `?`
pub failed : {A : Type 0} (o : Outcome A) (r : Result A Refusal) (e : Refusal) (after : List Lexeme)
    → IsErrAnd r (λ y. y ≡ e) → Fails o e → Reads o r after
failed o (Ok a) e after is f = absurd is
failed o (Err y) e after is f = rw is f

-- the first of two fails
pub first : {A B : Type 0} (o : Outcome A) (f : A → Parser B) (e : Refusal) → Fails o e → Fails (o >>= f) e
first o f refusal.NoTree h = rw h refl
first o f refusal.TooHigh h = rw h refl
first o f refusal.OutOfMemory h = tt

-- the sign wasn't there
pub kept : {X : Type 0} (found : Bool) (x y z : X) → false ≡ found → z ≡ (if found then y else x) → x ≡ z
kept true x y z is after = absurd (cc)
kept false x y z is after = sym after

-- the sign was there
pub taken : {X : Type 0} (found : Bool) (x y z : X) → true ≡ found → z ≡ (if found then y else x) → y ≡ z
taken true x y z is after = sym after
taken false x y z is after = absurd (cc)
