-- Lemmas on the quotient that is truncated toward zero and its remainder.
use Rattle.std.proofs.Common.{◌≡◌, ◌≢◌, ℕ, zero, suc, ◌/◌, ◌%◌, ◌^◌, ◌<◌, ◌≤◌, refl, arith, w32}
use Rattle.std.proofs.Math.Nat.{div-le_self}
use Rattle.std.specs.Prelude.{ℤ, pos, negsuc, neg_ℤ, ◌≤ℤ◌, unsigned_abs, int_div, int_rem, FitsSigned}
use Rattle.std.specs.Int.{int_wrapping_div}
use Rattle.std.proofs.lemmas.Int.{ints, quot-rem, rem_below}
use Rattle.pb_int.specs.Int32.{wrap}
use Rattle.pb_int.specs.Laws.{IsTruncated}
use Rattle.pb_int.proofs.Wraps.{wrap_near}

opposite_abs : (n : ℕ) → unsigned_abs (neg_ℤ (pos n)) ≡ n
opposite_abs zero = refl
opposite_abs (suc n) = refl

-- a quotient isn't farther from 0 than the dividend
quotient_near : (a d : ℤ) → unsigned_abs (int_div a d) ≤ unsigned_abs a
quotient_near (pos a) (pos d) = div-le_self a d
quotient_near (pos a) (negsuc d) = omega (arith, opposite_abs (a / suc d), div-le_self a (suc d))
quotient_near (negsuc a) (pos d) = omega (arith, opposite_abs (suc a / d), div-le_self (suc a) d)
quotient_near (negsuc a) (negsuc d) = div-le_self (suc a) (suc d)

int_near : (a : ℤ) → FitsSigned w32 a → unsigned_abs a ≤ 2 ^ 31
int_near (pos n) f = omega (arith, ints)
int_near (negsuc n) f = omega (arith, ints)

-- the machine's quotient
pub quotient_is : (a b : ℤ) → FitsSigned w32 a → int_wrapping_div w32 a b ≡ wrap (int_div a b)
quotient_is a b f =
    let near = int_near a f in
    let closer = quotient_near a b in
    wrap_near (int_div a b) (omega (arith, near, closer))

divisor_counts : (d : ℤ) → d ≢ pos 0 → 0 < unsigned_abs d
divisor_counts (pos zero) h = absurd (h refl)
divisor_counts (pos (suc n)) h = omega arith
divisor_counts (negsuc n) h = omega arith

remainder_not_negative : (a d : ℤ) → pos 0 ≤ℤ a → pos 0 ≤ℤ int_rem a d
remainder_not_negative (pos a) d h = omega (arith, ints)
remainder_not_negative (negsuc a) d h = absurd (omega (arith, ints))

remainder_not_positive : (a d : ℤ) → a ≤ℤ pos 0 → int_rem a d ≤ℤ pos 0
remainder_not_positive (pos a) d h =
    let none : a ≡ 0 = omega (arith, ints) in
    let left : a % unsigned_abs d ≤ a = omega arith in
    omega (arith, ints)
remainder_not_positive (negsuc a) d h = omega (arith, ints)

pub truncates : (a d : ℤ) → d ≢ pos 0 → IsTruncated a d
truncates a d h = record {
  whole = quot-rem a d;
  smaller = rem_below a d (divisor_counts d h);
  not_negative = remainder_not_negative a d;
  not_positive = remainder_not_positive a d;
}
