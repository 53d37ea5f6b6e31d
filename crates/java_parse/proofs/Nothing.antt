-- Nothing has height 0.
use Rattle.std.proofs.Common.{◌≡◌, ℕ, zero, suc, List, Bool}
use Rattle.token_reading.specs.Lexeme.{Lexeme}
use Rattle.token_reading.specs.Reads.{Fails, refusal_at}
use Rattle.token_reading.proofs.Nothing.{no_part}
use Rattle.java_reading.specs.ReadStmt.{unended, statement}
use Rattle.java_reading.specs.ReadClass.{member, class}

pub no_unended : (n : ℕ) (declares : Bool) (xs : List Lexeme) → n ≡ 0 → Fails (unended n declares xs) (refusal_at xs)
unfolding unended
no_unended zero declares xs h = no_part _ xs
no_unended (suc n) declares xs h = absurd (cc)

pub no_statement : (n : ℕ) (in_block : Bool) (xs : List Lexeme) → n ≡ 0 → Fails (statement n in_block xs) (refusal_at xs)
unfolding statement
no_statement zero in_block xs h = no_part _ xs
no_statement (suc n) in_block xs h = absurd (cc)

pub no_member : (n : ℕ) (xs : List Lexeme) → n ≡ 0 → Fails (member n xs) (refusal_at xs)
unfolding member
no_member zero xs h = no_part _ xs
no_member (suc n) xs h = absurd (cc)

pub no_class : (n : ℕ) (xs : List Lexeme) → n ≡ 0 → Fails (class n xs) (refusal_at xs)
unfolding class
no_class zero xs h = no_part _ xs
no_class (suc n) xs h = absurd (cc)
