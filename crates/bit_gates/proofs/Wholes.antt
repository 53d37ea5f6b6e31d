-- Lemmas on binary digits.
use Rattle.std.proofs.Common.{◌≡◌, ◌≢◌, not, ◌<◌, ◌≤◌, ◌+◌, ◌-◌, ◌*◌, ◌^◌, ℕ, zero, suc, Bool, true, false, ℤ, List, [], ◌∷◌, ◌++◌, length, refl, sym, ap, ◌∙◌, arith, subst, inl, inr, ◌⊎◌, take, replicate, add-one, append_assoc}
use Rattle.std.specs.Prelude.{int_lt, if◌then◌else◌, pos, negsuc, neg_ℤ, ◌+ℤ◌, ◌-ℤ◌, ◌*ℤ◌, ◌≤ℤ◌, ◌<ℤ◌, unsigned_abs}
use Rattle.std.proofs.Math.Nat.{pow-suc}
use Rattle.std.proofs.lemmas.List.{length_push, append-nil, length-take-le}
use Rattle.std.proofs.lemmas.Nat.{pow_pos, mul-le}
use Rattle.std.proofs.lemmas.Int.{ints}
use Rattle.std.proofs.lemmas.Bool.{false_from_ne_true, cases_lt}
use Rattle.std.proofs.lemmas.Bool.Decides.{Decides-int_eq}
use Rattle.std.specs.Ordering.{int_eq}
use Rattle.gate_net.specs.Net.{differ}
use Rattle.bit_gates.specs.Digits.{Differs}
use Rattle.bit_gates.specs.Whole.{bit, unsigned, sign, sign_after, whole}

pub unsigned-push : (bits : List Bool) (b : Bool) → unsigned (bits ++ b ∷ []) ≡ unsigned bits + bit b * 2 ^ length bits
unsigned-push [] b = omega arith
unsigned-push (c ∷ bits) b = grind (arith, unsigned-push bits b, pow-suc 2 (length bits))

pub sign_after-push : (c : Bool) (bits : List Bool) (b : Bool) → sign_after c (bits ++ b ∷ []) ≡ b
sign_after-push c [] b = refl
sign_after-push c (d ∷ bits) b = sign_after-push d bits b

pub sign-push : (bits : List Bool) (b : Bool) → sign (bits ++ b ∷ []) ≡ b
sign-push [] b = refl
sign-push (c ∷ bits) b = sign_after-push c bits b

-- what digits are worth, by their sign: h is half of what they can count
pub record Halves (h u : ℕ) (s : Bool) (z : ℤ) : Type 0 where
  pub low : bit s * h ≤ u
  pub high : u < h + bit s * h
  pub is : z ≡ pos u -ℤ pos (bit s * (h + h))

halves_next : (b s : Bool) (h k u : ℕ) → k ≡ h + h → (bit s * h ≤ u) × (u < h + bit s * h)
    → (bit s * k ≤ bit b + 2 * u) × (bit b + 2 * u < k + bit s * k)
halves_next b s h k u e p = (grind arith, grind arith)

unsigned-halves : (b : Bool) (bits : List Bool)
    → (bit (sign_after b bits) * 2 ^ length bits ≤ unsigned (b ∷ bits))
    × (unsigned (b ∷ bits) < 2 ^ length bits + bit (sign_after b bits) * 2 ^ length bits)
unsigned-halves b [] = (grind arith, grind arith)
unsigned-halves b (c ∷ bits) = halves_next b (sign_after c bits) (2 ^ length bits) (2 ^ suc (length bits)) (unsigned (c ∷ bits)) (omega (arith, pow-suc 2 (length bits))) (unsigned-halves c bits)

pub halves : (b : Bool) (bits : List Bool)
    → Halves (2 ^ length bits) (unsigned (b ∷ bits)) (sign_after b bits) (whole (b ∷ bits))
halves b bits =
    let h = unsigned-halves b bits in
    let double : 2 ^ suc (length bits) ≡ 2 ^ length bits + 2 ^ length bits = omega (arith, pow-suc 2 (length bits)) in
    record { low = h.0; high = h.1; is = ap (λ p. pos (unsigned (b ∷ bits)) -ℤ pos (bit (sign_after b bits) * p)) double }

-- the number lies in the range of two's complement with this half
pub record InRange (h : ℕ) (z : ℤ) : Type 0 where
  pub low : neg_ℤ (pos h) ≤ℤ z
  pub high : z <ℤ pos h

-- what digits are worth lies in the range of their width
pub range-cases : (h u : ℕ) (s : Bool) (z : ℤ) → Halves h u s z → InRange h z
range-cases h u s z p = record { low = grind (arith, ints); high = grind (arith, ints) }

-- a number of the range with more of its width is no other number of the range with less
more-width : (h m n : ℕ) (r t : ℤ) → InRange h r → InRange h t
    → r +ℤ pos (m * (h + h)) ≡ t +ℤ pos (n * (h + h)) → n ≤ m
more-width h m n r t f g e = elim (cases_lt m n) [
  | inl below ↦
      let far : (m + 1) * (h + h) ≤ n * (h + h) = mul-le (m + 1) (h + h) n (h + h) (omega arith) (omega arith) in
      let next : (m + 1) * (h + h) ≡ m * (h + h) + (h + h) = grind arith in
      absurd (omega (arith, ints, f.low, f.high, g.low, g.high, e, far, next))
  | inr least ↦ least
]

one-residue : (h m n : ℕ) (r t : ℤ) → InRange h r → InRange h t
    → r +ℤ pos (m * (h + h)) ≡ t +ℤ pos (n * (h + h)) → r ≡ t
one-residue h m n r t f g e =
    let same : m ≡ n = omega (arith, more-width h m n r t f g e, more-width h n m t r g f (sym e)) in
    omega (arith, ints, e, ap (λ k. k * (h + h)) same)

-- a sum of digits that are as wide as the result
sum_cases : (h u v s : ℕ) (x y z c : Bool) (a b r : ℤ) → Halves h u x a → Halves h v y b → Halves h s z r
    → s + bit c * (h + h) ≡ u + v → InRange h (a +ℤ b) → r ≡ a +ℤ b
sum_cases h u v s x y z c a b r p q t e f =
    let left : (bit z + bit c) * (h + h) ≡ bit z * (h + h) + bit c * (h + h) = grind arith in
    let right : (bit x + bit y) * (h + h) ≡ bit x * (h + h) + bit y * (h + h) = grind arith in
    one-residue h (bit z + bit c) (bit x + bit y) r (a +ℤ b) (range-cases h s z r t) f (omega (arith, ints, p.is, q.is, t.is, e, left, right))

difference_cases : (h u v s : ℕ) (x y z c : Bool) (a b r : ℤ) → Halves h u x a → Halves h v y b → Halves h s z r
    → s + v ≡ u + bit c * (h + h) → InRange h (a -ℤ b) → r ≡ a -ℤ b
difference_cases h u v s x y z c a b r p q t e f =
    let left : (bit z + bit y) * (h + h) ≡ bit z * (h + h) + bit y * (h + h) = grind arith in
    let right : (bit c + bit x) * (h + h) ≡ bit c * (h + h) + bit x * (h + h) = grind arith in
    one-residue h (bit z + bit y) (bit c + bit x) r (a -ℤ b) (range-cases h s z r t) f (omega (arith, ints, p.is, q.is, t.is, e, left, right))

pub halves_of : (bits : List Bool) (n : ℕ) → length bits ≡ suc n
    → Halves (2 ^ n) (unsigned bits) (sign bits) (whole bits)
halves_of [] n size = absurd (omega arith)
halves_of (b ∷ bits) n size =
    let e : length bits ≡ n = omega arith in
    subst (λ k. Halves (2 ^ k) (unsigned (b ∷ bits)) (sign_after b bits) (whole (b ∷ bits))) e (halves b bits)

pub twice : (n : ℕ) → 2 ^ suc n ≡ 2 ^ n + 2 ^ n
twice n = omega (arith, pow-suc 2 n)

pub sum-whole : (xs ys ds : List Bool) (c : Bool) (n : ℕ) → length xs ≡ suc n → length ys ≡ suc n → length ds ≡ suc n
    → unsigned ds + bit c * 2 ^ suc n ≡ unsigned xs + unsigned ys → InRange (2 ^ n) (whole xs +ℤ whole ys)
    → whole ds ≡ whole xs +ℤ whole ys
sum-whole xs ys ds c n h k l e f =
    let balance : unsigned ds + bit c * (2 ^ n + 2 ^ n) ≡ unsigned xs + unsigned ys = ap (λ p. unsigned ds + bit c * p) (sym (twice n)) ∙ e in
    sum_cases (2 ^ n) _ _ _ (sign xs) (sign ys) (sign ds) c _ _ _ (halves_of xs n h) (halves_of ys n k) (halves_of ds n l) balance f

pub difference-whole : (xs ys ds : List Bool) (c : Bool) (n : ℕ) → length xs ≡ suc n → length ys ≡ suc n
    → length ds ≡ suc n → unsigned ds + unsigned ys ≡ unsigned xs + bit c * 2 ^ suc n
    → InRange (2 ^ n) (whole xs -ℤ whole ys) → whole ds ≡ whole xs -ℤ whole ys
difference-whole xs ys ds c n h k l e f =
    let balance : unsigned ds + unsigned ys ≡ unsigned xs + bit c * (2 ^ n + 2 ^ n) = e ∙ ap (λ p. unsigned xs + bit c * p) (twice n) in
    difference_cases (2 ^ n) _ _ _ (sign xs) (sign ys) (sign ds) c _ _ _ (halves_of xs n h) (halves_of ys n k) (halves_of ds n l) balance f

-- digits after the sign that repeat it change nothing
wider : (u p : ℕ) (s : Bool) → pos (u + bit s * p) -ℤ pos (bit s * (p + p)) ≡ pos u -ℤ pos (bit s * p)
wider u p true = omega (arith, ints)
wider u p false = omega (arith, ints)

whole-push : (bits : List Bool) (s : Bool) → sign bits ≡ s → whole (bits ++ s ∷ []) ≡ whole bits
whole-push bits s e =
    let size : 2 ^ length (bits ++ s ∷ []) ≡ 2 ^ length bits + 2 ^ length bits = ap (λ n. 2 ^ n) (length_push bits s ∙ add-one (length bits)) ∙ twice (length bits) in
    ap (λ u. pos u -ℤ pos (bit (sign (bits ++ s ∷ [])) * 2 ^ length (bits ++ s ∷ []))) (unsigned-push bits s)
    ∙ ap (λ t. pos (unsigned bits + bit s * 2 ^ length bits) -ℤ pos (bit t * 2 ^ length (bits ++ s ∷ []))) (sign-push bits s)
    ∙ ap (λ p. pos (unsigned bits + bit s * 2 ^ length bits) -ℤ pos (bit s * p)) size
    ∙ wider (unsigned bits) (2 ^ length bits) s
    ∙ ap (λ t. pos (unsigned bits) -ℤ pos (bit t * 2 ^ length bits)) (sym e)

pub whole-widened : (bits : List Bool) (s : Bool) (k : ℕ) → sign bits ≡ s → whole (bits ++ replicate k s) ≡ whole bits
whole-widened bits s zero e = ap whole (append-nil bits)
whole-widened bits s (suc k) e =
    ap whole (sym (append_assoc bits (s ∷ []) (replicate k s))) ∙ whole-widened (bits ++ s ∷ []) s k (sign-push bits s) ∙ whole-push bits s e

-- the lowest digit and the others
double_next : (b s : Bool) (u p : ℕ)
    → pos (bit b + 2 * u) -ℤ pos (bit s * (p + p))
    ≡ pos (bit b) +ℤ ((pos u -ℤ pos (bit s * p)) +ℤ (pos u -ℤ pos (bit s * p)))
double_next b s u p = grind (arith, ints)

pub whole-cons : (b c : Bool) (bits : List Bool)
    → whole (b ∷ c ∷ bits) ≡ pos (bit b) +ℤ (whole (c ∷ bits) +ℤ whole (c ∷ bits))
whole-cons b c bits =
    ap (λ p. pos (unsigned (b ∷ c ∷ bits)) -ℤ pos (bit (sign_after c bits) * p)) (twice (suc (length bits))) ∙ double_next b (sign_after c bits) (unsigned (c ∷ bits)) (2 ^ suc (length bits))

one-digit : (b : Bool) (z : ℤ) → InRange 1 (pos (bit b) +ℤ (z +ℤ z)) → whole (b ∷ []) ≡ pos (bit b) +ℤ (z +ℤ z)
one-digit b z f = grind (arith, ints)

half-range : (b : Bool) (h k : ℕ) (z : ℤ) → k ≡ h + h → InRange k (pos (bit b) +ℤ (z +ℤ z)) → InRange h z
half-range b h k z e f = record { low = grind (arith, ints); high = grind (arith, ints) }

-- digits that the number doesn't need can be cut off
pub whole-cut : (n : ℕ) (bits : List Bool) → n < length bits → InRange (2 ^ n) (whole bits)
    → whole (take (suc n) bits) ≡ whole bits
whole-cut n [] h f = absurd (omega arith)
whole-cut zero (b ∷ []) h f = refl
whole-cut zero (b ∷ c ∷ bits) h f = one-digit b (whole (c ∷ bits)) (subst (InRange 1) (whole-cons b c bits) f) ∙ sym (whole-cons b c bits)
whole-cut (suc n) (b ∷ []) h f = absurd (omega arith)
whole-cut (suc n) (b ∷ c ∷ bits) h f =
    let rest = whole-cut n (c ∷ bits) (omega arith) (half-range b (2 ^ n) (2 ^ suc n) (whole (c ∷ bits)) (twice n) (subst (InRange (2 ^ suc n)) (whole-cons b c bits) f)) in
    whole-cons b c (take n bits) ∙ ap (λ z. pos (bit b) +ℤ (z +ℤ z)) rest ∙ sym (whole-cons b c bits)

-- the last digit stands after the others
pub front-and-sign : (bits : List Bool) (n : ℕ) → length bits ≡ suc n → bits ≡ take n bits ++ sign bits ∷ []
front-and-sign [] n size = absurd (omega arith)
front-and-sign (b ∷ []) zero size = refl
front-and-sign (b ∷ []) (suc n) size = absurd (omega arith)
front-and-sign (b ∷ c ∷ bits) zero size = absurd (omega arith)
front-and-sign (b ∷ c ∷ bits) (suc n) size = ap (λ xs. b ∷ xs) (front-and-sign (c ∷ bits) n (omega arith))

narrower : (u p : ℕ) (s : Bool) → pos (u + bit s * p) -ℤ pos (bit s * (p + p)) ≡ pos u -ℤ pos (bit s * p)
narrower u p s = grind (arith, ints)

-- a number by its lower digits and its sign
pub whole-split : (bits : List Bool) (n : ℕ) → length bits ≡ suc n
    → whole bits ≡ pos (unsigned (take n bits)) -ℤ pos (bit (sign bits) * 2 ^ n)
whole-split bits n size =
    let e = front-and-sign bits n size in
    let low : length (take n bits) ≡ n = length-take-le n bits (omega arith) in
    let sum : unsigned bits ≡ unsigned (take n bits) + bit (sign bits) * 2 ^ n =
    ap unsigned e ∙ unsigned-push (take n bits) (sign bits) ∙ ap (λ k. unsigned (take n bits) + bit (sign bits) * 2 ^ k) low in
    let wide : 2 ^ length bits ≡ 2 ^ n + 2 ^ n = ap (λ k. 2 ^ k) size ∙ twice n in
    ap (λ u. pos u -ℤ pos (bit (sign bits) * 2 ^ length bits)) sum
    ∙ ap (λ p. pos (unsigned (take n bits) + bit (sign bits) * 2 ^ n) -ℤ pos (bit (sign bits) * p)) wide
    ∙ narrower (unsigned (take n bits)) (2 ^ n) (sign bits)

eq-false : (a b : ℤ) → a ≢ b → int_eq a b ≡ false
eq-false a b h = false_from_ne_true (int_eq a b) (λ t. h ((Decides-int_eq a b).0 t))

-- the order of two numbers, by their signs and a borrow of the lower digits
pub order-cases : (h u v s : ℕ) (x y c : Bool) → u < h → v < h → s < h → s + v ≡ u + bit c * h
    → (if differ x y then x else c) ≡ int_lt (pos u -ℤ pos (bit x * h)) (pos v -ℤ pos (bit y * h))
order-cases h u v s x y c i j k e = grind (arith, ints)

-- numbers of one width are equal where they are without a sign
equal-cases : (h u v : ℕ) (x y : Bool) (a b : ℤ) → Halves h u x a → Halves h v y b → u ≡ v → a ≡ b
equal-cases h u v x y a b p q e = grind (arith, ints)

equal-back : (h u v : ℕ) (x y : Bool) (a b : ℤ) → Halves h u x a → Halves h v y b → a ≡ b → u ≡ v
equal-back h u v x y a b p q e = grind (arith, ints)

pub equality : (xs ys : List Bool) (n : ℕ) (d r : Bool) → length xs ≡ suc n → length ys ≡ suc n
    → Differs d (unsigned xs) (unsigned ys) → r ≡ not d → r ≡ int_eq (whole xs) (whole ys)
equality xs ys n true r h k j e =
    e ∙ sym (eq-false (whole xs) (whole ys) (λ f. j.apart refl (equal-back (2 ^ n) _ _ (sign xs) (sign ys) _ _ (halves_of xs n h) (halves_of ys n k) f)))
equality xs ys n false r h k j e =
    e ∙ sym ((Decides-int_eq (whole xs) (whole ys)).1 (equal-cases (2 ^ n) _ _ (sign xs) (sign ys) _ _ (halves_of xs n h) (halves_of ys n k) (j.same refl)))

-- 0 less a number
pub negation-whole : (ys ds : List Bool) (c : Bool) (n : ℕ) → length ys ≡ suc n → length ds ≡ suc n
    → unsigned ds + unsigned ys ≡ bit c * 2 ^ suc n → InRange (2 ^ n) (pos 0 -ℤ whole ys) → whole ds ≡ pos 0 -ℤ whole ys
negation-whole ys ds c n k l e f =
    let balance : unsigned ds + unsigned ys ≡ 0 + bit c * (2 ^ n + 2 ^ n) = omega (arith, e, ap (λ p. bit c * p) (twice n)) in
    let none : Halves (2 ^ n) 0 false (pos 0) = record { low = omega arith; high = omega (arith, pow_pos n); is = omega (arith, ints) } in
    difference_cases (2 ^ n) 0 _ _ false (sign ys) (sign ds) c (pos 0) _ _ none (halves_of ys n k) (halves_of ds n l) balance f

positive-cases : (h m u : ℕ) (s : Bool) (z : ℤ) → Halves h u s z → m < h → u ≡ m → z ≡ pos m
positive-cases h m u s z p b e = grind (arith, ints)

negative-cases : (h m u : ℕ) (s : Bool) (z : ℤ) → Halves h u s z → suc m < h → u + suc m ≡ h + h → z ≡ negsuc m
negative-cases h m u s z p b e = grind (arith, ints)

-- the number whose digits are those of n, or of n and a power of two that is above the width
pub constant-whole : (n : ℤ) (bits : List Bool) (k most : ℕ) → length bits ≡ suc k → unsigned_abs n ≡ most
    → most < 2 ^ k → (pos 0 ≤ℤ n → unsigned bits ≡ most) → (n <ℤ pos 0 → unsigned bits + most ≡ 2 ^ suc k)
    → whole bits ≡ n
constant-whole (pos m) bits k most size abs below plain turned =
    let e : unsigned bits ≡ most = plain (omega (arith, ints)) in
    positive-cases (2 ^ k) m (unsigned bits) (sign bits) (whole bits) (halves_of bits k size) (omega arith) (e ∙ sym abs)
constant-whole (negsuc m) bits k most size abs below plain turned =
    let e : unsigned bits + most ≡ 2 ^ suc k = turned (omega (arith, ints)) in
    negative-cases (2 ^ k) m (unsigned bits) (sign bits) (whole bits) (halves_of bits k size) (omega arith) (omega (arith, e, twice k))
