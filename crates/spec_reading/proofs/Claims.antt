-- What reading finds where something is written.
use Rattle.std.proofs.Common.{◌≡◌, ℕ, ◌≤◌, ◌<◌, Ok, Err, List, refl}
use Rattle.token_reading.specs.Lexeme.{Lexeme}
use Rattle.token_reading.specs.Outcome.{too_high, Outcome, Parser, ◌>>=◌}

-- What is written with the height h is found with the budget b, or a part of it, whose height is n at most, is higher.
pub data Found {A : Type 0} (n b h : ℕ) (o good : Outcome A) : Type 0 where
  found : h ≤ b → o ≡ good → Found n b h o good
  over : b < n → o ≡ Err too_high → Found n b h o good

pub found_then : {A B : Type 0} {n b h m c g : ℕ} {o : Outcome A} {a : A} {ys : List Lexeme} (f : A → Parser B) {good : Outcome B}
    → Found n b h o (Ok (a, ys)) → (b < n → c < m) → (h ≤ b → Found m c g (f a ys) good) → Found m c g (o >>= f) good
found_then f (found low r) up k = rw r (k low)
found_then f (over high r) up k = over (up high) (rw r refl)
