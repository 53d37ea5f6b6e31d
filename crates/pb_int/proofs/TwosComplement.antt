-- Lemmas on the digits of a number in two's complement.
use Rattle.std.proofs.Common.{◌≡◌, ℕ, zero, suc, ◌+◌, ◌-◌, ◌*◌, ◌/◌, ◌%◌, ◌^◌, ◌<◌, ◌≤◌, refl, sym, ◌∙◌, ap, arith, w32}
use Rattle.std.proofs.Math.Logic.{⊎_elim}
use Rattle.std.specs.Prelude.{ℤ, pos, negsuc, FitsSigned, bit_and, bit_or, bit_xor}
use Rattle.std.specs.Int.{int_wrap, cast_signed, cast_unsigned, sum_through, bit_at, bit_not}
use Rattle.std.proofs.lemmas.Int.{of_z-to_z, SFits-int_wrap}
use Rattle.std.proofs.lemmas.Nat.{mod-pow-add, and_le_l, or_lt, xor_lt}
use Rattle.std.proofs.lemmas.Nat.Bits.{bit_at_and, bit_at_or, bit_at_xor, bit_at_not, bit_at_lowest, bit_at_cat_low, bit_at_cat_high}
use Rattle.std.proofs.lemmas.Bool.{cases_lt}
use Rattle.std.proofs.Math.Nat.{mul-le-mul_right}
use Rattle.pb_int.specs.Int32.{wrap, modulo, digit, from_digits, digitwise, and_digit, or_digit, xor_digit}
use Rattle.pb_int.proofs.Wraps.{word_is, word_below, wrap_word}

modulo_below : (n : ℤ) → modulo n (2 ^ 32) < 2 ^ 32
modulo_below (pos n) = omega arith
modulo_below (negsuc n) = omega arith

-- the digits 0 to k of n make n modulo 2 ^ (k + 1)
sum_is : (f : ℕ → ℕ) (n : ℕ) → ((k : ℕ) → k < 32 → f k ≡ bit_at n k) → (k : ℕ) → k < 32 → sum_through (λ i. f i * 2 ^ i) k ≡ n % 2 ^ suc k
sum_is f n same zero h = let low = same 0 h in let first = bit_at_lowest n in omega (arith, low, first)
sum_is f n same (suc k) h =
    let before : sum_through (λ i. f i * 2 ^ i) k ≡ n % 2 ^ suc k = sum_is f n same k (omega arith) in
    let here : f (suc k) ≡ n / 2 ^ suc k % 2 = same (suc k) h in
    let split : n % 2 ^ (1 + suc k) ≡ (n / 2 ^ suc k % 2) * 2 ^ suc k + n % 2 ^ suc k = mod-pow-add n 1 (suc k) in
    let next : 1 + suc k ≡ suc (suc k) = omega arith in
    let whole : n % 2 ^ suc (suc k) ≡ (n / 2 ^ suc k % 2) * 2 ^ suc k + n % 2 ^ suc k = ap (λ e. n % 2 ^ e) (sym next) ∙ split in
    let worth = ap (λ d. d * 2 ^ suc k) here in
    omega (arith, before, whole, worth)

-- the number of a word's digits is the `int` of the word
pub word_from_digits : (f : ℕ → ℕ) (n : ℕ) → n < 2 ^ 32 → ((k : ℕ) → k < 32 → f k ≡ bit_at n k) → cast_signed w32 n ≡ from_digits f
unfolding from_digits
word_from_digits f n h same =
    let sum : sum_through (λ i. f i * 2 ^ i) 31 ≡ n % 2 ^ 32 = sum_is f n same 31 (omega arith) in
    let whole : n % 4294967296 ≡ n = omega arith in
    sym (ap (λ s. wrap (pos s)) (sum ∙ whole) ∙ wrap_word n h)

-- digit k of an `int` is bit k of its word
digit_is : (a : ℤ) (k : ℕ) → FitsSigned w32 a → digit a k ≡ bit_at (cast_unsigned w32 a) k
digit_is a k f = ap (λ n. bit_at n k) (sym (word_is a f))

pub and_is : (a b : ℤ) → FitsSigned w32 a → FitsSigned w32 b → cast_signed w32 (bit_and (cast_unsigned w32 a) (cast_unsigned w32 b)) ≡ digitwise and_digit a b
and_is a b f g =
    let x = cast_unsigned w32 a in
    let y = cast_unsigned w32 b in
    let small : bit_and x y < 2 ^ 32 = omega (arith, and_le_l x y, word_below a f) in
    word_from_digits (λ k. and_digit (digit a k) (digit b k)) (bit_and x y) small
    (λ k h. ap (λ d. and_digit d (digit b k)) (digit_is a k f) ∙ ap (and_digit (bit_at x k)) (digit_is b k g) ∙ sym (bit_at_and x y k))

pub or_is : (a b : ℤ) → FitsSigned w32 a → FitsSigned w32 b → cast_signed w32 (bit_or (cast_unsigned w32 a) (cast_unsigned w32 b)) ≡ digitwise or_digit a b
or_is a b f g =
    let x = cast_unsigned w32 a in
    let y = cast_unsigned w32 b in
    word_from_digits (λ k. or_digit (digit a k) (digit b k)) (bit_or x y) (or_lt 32 x y (word_below a f) (word_below b g))
    (λ k h. ap (λ d. or_digit d (digit b k)) (digit_is a k f) ∙ ap (or_digit (bit_at x k)) (digit_is b k g) ∙ sym (bit_at_or x y k))

pub xor_is : (a b : ℤ) → FitsSigned w32 a → FitsSigned w32 b → cast_signed w32 (bit_xor (cast_unsigned w32 a) (cast_unsigned w32 b)) ≡ digitwise xor_digit a b
xor_is a b f g =
    let x = cast_unsigned w32 a in
    let y = cast_unsigned w32 b in
    word_from_digits (λ k. xor_digit (digit a k) (digit b k)) (bit_xor x y) (xor_lt 32 x y (word_below a f) (word_below b g))
    (λ k h. ap (λ d. xor_digit d (digit b k)) (digit_is a k f) ∙ ap (xor_digit (bit_at x k)) (digit_is b k g) ∙ sym (bit_at_xor x y k))

pub not_is : (a : ℤ) → FitsSigned w32 a → cast_signed w32 (bit_not w32 (cast_unsigned w32 a)) ≡ from_digits (λ k. 1 - digit a k)
not_is a f =
    let x = cast_unsigned w32 a in
    let small : bit_not w32 x < 2 ^ 32 = omega arith in
    word_from_digits (λ k. 1 - digit a k) (bit_not w32 x) small
    (λ k h. ap (λ d. 1 - d) (digit_is a k f) ∙ sym (bit_at_not w32 x k (word_below a f) h))

-- digits 0 to k make a number below 2 ^ (k + 1)
sum_below : (f : ℕ → ℕ) → ((k : ℕ) → f k < 2) → (k : ℕ) → sum_through (λ i. f i * 2 ^ i) k < 2 ^ suc k
sum_below f small zero = omega (arith, small 0)
sum_below f small (suc k) =
    let before = sum_below f small k in
    let most : f (suc k) ≤ 1 = omega (arith, small (suc k)) in
    let worth : f (suc k) * 2 ^ suc k ≤ 1 * 2 ^ suc k = mul-le-mul_right (2 ^ suc k) most in
    omega (arith, before, worth)

-- a digit on top of a word of k digits is digit k
top_digit : (d k s i : ℕ) → d < 2 → s < 2 ^ k → i ≡ k → bit_at (s + d * 2 ^ k) i ≡ d
top_digit d k s i small below e =
    let turned : s + d * 2 ^ k ≡ d * 2 ^ k + s = omega arith in
    let first : i - k ≡ 0 = omega arith in
    let alone : d % 2 ≡ d = omega arith in
    ap (λ n. bit_at n i) turned ∙ bit_at_cat_high d k s i below (omega arith) ∙ ap (bit_at d) first ∙ bit_at_lowest d ∙ alone

-- and the digits below stay
low_digit : (d k s i : ℕ) → i < k → bit_at (s + d * 2 ^ k) i ≡ bit_at s i
low_digit d k s i h =
    let turned : s + d * 2 ^ k ≡ d * 2 ^ k + s = omega arith in
    ap (λ n. bit_at n i) turned ∙ bit_at_cat_low d k s i h

-- digit i of the number that digits 0 to k make
sum_digit : (f : ℕ → ℕ) → ((k : ℕ) → f k < 2) → (k i : ℕ) → i ≤ k → bit_at (sum_through (λ j. f j * 2 ^ j) k) i ≡ f i
sum_digit f small zero zero h = omega (arith, small 0)
sum_digit f small zero (suc i) h = absurd (omega arith)
sum_digit f small (suc k) i h =
    let s = sum_through (λ j. f j * 2 ^ j) k in
    ⊎_elim
    (λ below. low_digit (f (suc k)) (suc k) s i below ∙ sum_digit f small k i (omega arith))
    (λ above.
    let top : i ≡ suc k = omega arith in
    top_digit (f (suc k)) (suc k) s i (small (suc k)) (sum_below f small k) top ∙ ap f (sym top))
    (cases_lt i (suc k))

-- digit k of a wrapped word is bit k of the word
word_digit : (n k : ℕ) → n < 2 ^ 32 → digit (wrap (pos n)) k ≡ bit_at n k
word_digit n k h =
    let fits : FitsSigned w32 (wrap (pos n)) = SFits-int_wrap w32 (pos n) in
    let same = sym (word_is (wrap (pos n)) fits) ∙ ap (cast_unsigned w32) (wrap_word n h) ∙ of_z-to_z w32 n h in
    ap (λ m. bit_at m k) same

pub digits_kept : (f : ℕ → ℕ) → ((k : ℕ) → f k < 2) → (k : ℕ) → k < 32 → digit (from_digits f) k ≡ f k
unfolding from_digits
digits_kept f small k h =
    word_digit (sum_through (λ i. f i * 2 ^ i) 31) k (sum_below f small 31) ∙ sum_digit f small 31 k (omega arith)

pub number_kept : (n : ℤ) → from_digits (digit n) ≡ wrap n
unfolding int_wrap
number_kept n = sym (word_from_digits (digit n) (modulo n (2 ^ 32)) (modulo_below n) (λ k h. refl))
