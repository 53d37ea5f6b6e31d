-- Nothing has height 0.
use Rattle.std.proofs.Common.{◌≡◌, ℕ, zero, suc, List}
use Rattle.token_reading.specs.Lexeme.{Lexeme}
use Rattle.token_reading.specs.Reads.{Fails, refusal_at}
use Rattle.token_reading.proofs.Nothing.{no_part}
use Rattle.spec_reading.specs.ReadContract.{read_contract, read_spec}

pub no_contract : (n : ℕ) (xs : List Lexeme) → n ≡ 0 → Fails (read_contract n xs) (refusal_at xs)
unfolding read_contract
no_contract zero xs h = no_part _ xs
no_contract (suc n) xs h = absurd (cc)

pub no_spec : (n : ℕ) (xs : List Lexeme) → n ≡ 0 → Fails (read_spec n xs) (refusal_at xs)
unfolding read_spec
no_spec zero xs h = no_part _ xs
no_spec (suc n) xs h = absurd (cc)
