-- The numbered tokens.
use Rattle.std.proofs.Common.{◌≡◌, ℕ, ◌+◌, ◌≤◌, List, [], ◌∷◌, length, refl, arith}
use Rattle.java_tokens.specs.declared.token.Token.{Token}
use Rattle.token_reading.specs.Lexeme.{numbered, place}

pub place_numbered : (n : ℕ) (ts : List Token) → 1 ≤ length ts → place (numbered n ts) ≡ n
place_numbered n [] h = absurd (omega arith)
place_numbered n (t ∷ ts) h = refl

pub length_numbered : (n : ℕ) (ts : List Token) → length (numbered n ts) ≡ length ts
length_numbered n [] = refl
length_numbered n (t ∷ ts) = omega (arith, length_numbered (n + 1) ts)
