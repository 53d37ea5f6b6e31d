-- What the operations of `int` mean, in whole numbers: each is `wrap` of one on whole numbers.
-- std's `int_div` and `int_rem` are the quotient truncated toward zero and its remainder.
use Rattle.std.specs.Prelude.{ℕ, ℤ, pos, ◌+◌, ◌*◌, ◌/◌, ◌%◌, ◌^◌, min, max, unsigned_abs}
use Rattle.std.specs.Int.{w32, int_wrap, int_div_euclid, int_rem_euclid, sum_through}

-- the number from -2 ^ 31 to 2 ^ 31 - 1 that is congruent to n modulo 2 ^ 32
abbrev pub wrap : ℤ → ℤ
wrap n = int_wrap w32 n

-- the number from 0 to m - 1 that is congruent to n modulo m
abbrev pub modulo : ℤ → ℕ → ℕ
modulo n m = unsigned_abs (int_rem_euclid n (pos m))

-- n / d rounded down, where d is positive
abbrev pub floor_quotient : ℤ → ℕ → ℤ
floor_quotient n d = int_div_euclid n (pos d)

-- how far a shift by b goes
abbrev pub distance : ℤ → ℕ
distance b = modulo b 32

-- digit k of n in two's complement, 0 or 1, the lowest being digit 0
abbrev pub digit : ℤ → ℕ → ℕ
digit n k = modulo n (2 ^ 32) / 2 ^ k % 2

-- the number whose digits 0 to 31 in two's complement are these
unfoldable pub from_digits : (ℕ → ℕ) → ℤ
from_digits digits = wrap (pos (sum_through (λ k. digits k * 2 ^ k) 31))

-- an operation on two numbers, digit by digit
abbrev pub digitwise : (ℕ → ℕ → ℕ) → ℤ → ℤ → ℤ
digitwise operation a b = from_digits (λ k. operation (digit a k) (digit b k))

-- 1 where both digits are 1
abbrev pub and_digit : ℕ → ℕ → ℕ
and_digit x y = min x y

-- 1 where one of the digits or both are 1
abbrev pub or_digit : ℕ → ℕ → ℕ
or_digit x y = max x y

-- 1 where the digits differ
abbrev pub xor_digit : ℕ → ℕ → ℕ
xor_digit x y = (x + y) % 2
