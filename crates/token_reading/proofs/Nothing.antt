-- Nothing has height 0.
use Rattle.std.proofs.Common.{List, [], ◌∷◌, refl}
use Rattle.token_reading.specs.Lexeme.{Lexeme}
use Rattle.token_reading.specs.ReadType.{none_fits}
use Rattle.token_reading.specs.Reads.{Fails, refusal_at}

pub no_part : (A : Type 0) (xs : List Lexeme) → Fails (none_fits {A = A} xs) (refusal_at xs)
unfolding none_fits
no_part A [] = refl
no_part A (x ∷ xs) = refl
