-- Comparisons, negations and constants of bits.
use Rattle.std.proofs.Common.{◌≡◌, ◌<◌, ◌≤◌, ◌+◌, ◌*◌, ◌/◌, ◌%◌, ◌-◌, ◌^◌, ℕ, suc, ℤ, Bool, true, false, not, List, [], ◌∷◌, ◌++◌, length, map, take, get_or, refl, sym, ap, ◌∙◌, arith, subst, add-one, inl, inr}
use Rattle.std.specs.Prelude.{pos, negsuc, neg_ℤ, ◌-ℤ◌, ◌≤ℤ◌, ◌<ℤ◌, int_lt, unsigned_abs, if◌then◌else◌, nat_eq}
use Rattle.std.specs.Ordering.{int_eq}
use Rattle.std.proofs.Math.Nat.{pow-suc, pow-le-pow_right}
use Rattle.std.proofs.lemmas.Nat.{one_shl}
use Rattle.std.proofs.lemmas.List.{length-map, length-take-le, take-map, map_push, length_push}
use Rattle.std.proofs.lemmas.Int.{ints}
use Rattle.std.proofs.lemmas.Bool.{ltb-true, cases_lt}
use Rattle.gate_net.specs.Net.{Always, IsNode, Continues, differ, node_value}
use Rattle.gate_net.specs.declared.gate.Gate.{Gate}
use Rattle.gate_net.specs.declared.node.Node.{Node}
use Rattle.gate_net.proofs.Growth.{continues-then}
use Rattle.bit_gates.specs.Whole.{bit, unsigned, sign, whole, width_of}
use Rattle.bit_gates.specs.Bits.{IsBits, number}
use Rattle.bit_gates.specs.Digits.{IsJoin, IsNegation, Differs, last_of}
use Rattle.bit_gates.specs.declared.bits.Bits.{Bits}
use Rattle.bit_gates.specs.declared.digits.Rule.TheVariants.{Difference}
use Rattle.bit_gates.proofs.Wholes.{InRange, whole-split, order-cases, equality, negation-whole, constant-whole, unsigned-push}
use Rattle.bit_gates.proofs.Widths.{HasDigits, digits_of, in-range, sign-last, width-le}
use Rattle.bit_gates.proofs.Steps.{unsigned-lt}
use Rattle.bit_gates.proofs.Sums.{parity}

sign-at : (value : Node → Bool) (xs : List Node) (n : ℕ) → length xs ≡ suc n
    → sign (map value xs) ≡ value (get_or xs n (record { place = 0 }))
sign-at value xs n size =
    let e : length xs - 1 ≡ n = omega arith in
    sign-last value xs (omega arith) ∙ ap (λ k. value (get_or xs k (record { place = 0 }))) e

pub less-value : (value : Node → Bool) (xs ys lowx lowy lower : List Node) (n : ℕ) (c d r : Bool) → length xs ≡ suc n
    → length ys ≡ suc n → lowx ≡ take n xs → lowy ≡ take n ys → length lower ≡ length lowx
    → IsJoin Difference (unsigned (map value lowx)) (unsigned (map value lowy)) (unsigned (map value lower))
    (bit c * 2 ^ length lowx)
    → d ≡ differ (value (get_or xs n (record { place = 0 }))) (value (get_or ys n (record { place = 0 })))
    → r ≡ (if d then value (get_or xs n (record { place = 0 })) else c)
    → r ≡ int_lt (whole (map value xs)) (whole (map value ys))
less-value value xs ys lowx lowy lower n c d r h k e g size join is out =
    let x = map value xs in
    let y = map value ys in
    let hx : length x ≡ suc n = length-map xs value ∙ h in
    let hy : length y ≡ suc n = length-map ys value ∙ k in
    let width : length lowx ≡ n = ap length e ∙ length-take-le n xs (omega arith) in
    let u : unsigned (map value lowx) ≡ unsigned (take n x) = ap (λ ns. unsigned (map value ns)) e ∙ ap unsigned (sym (take-map value n xs)) in
    let v : unsigned (map value lowy) ≡ unsigned (take n y) = ap (λ ns. unsigned (map value ns)) g ∙ ap unsigned (sym (take-map value n ys)) in
    let s = unsigned (map value lower) in
    let small : s < 2 ^ n = omega (arith, unsigned-lt (map value lower), ap (λ m. 2 ^ m) (length-map lower value ∙ size ∙ width)) in
    let balance : s + unsigned (take n y) ≡ unsigned (take n x) + bit c * 2 ^ n = omega (arith, join, u, v, ap (λ m. bit c * 2 ^ m) width) in
    let below : unsigned (take n x) < 2 ^ n = omega (arith, unsigned-lt (take n x), ap (λ m. 2 ^ m) (length-take-le n x (omega arith))) in
    let under : unsigned (take n y) < 2 ^ n = omega (arith, unsigned-lt (take n y), ap (λ m. 2 ^ m) (length-take-le n y (omega arith))) in
    let a = sign-at value xs n h in
    let b = sign-at value ys n k in
    let chosen : r ≡ (if differ (sign x) (sign y) then sign x else c) = rw (a, b) (out ∙ ap (λ t. if t then value (get_or xs n (record { place = 0 })) else c) is) in
    chosen ∙ order-cases (2 ^ n) (unsigned (take n x)) (unsigned (take n y)) s (sign x) (sign y) c below under small balance
    ∙ ap (λ z. int_lt z (pos (unsigned (take n y)) -ℤ pos (bit (sign y) * 2 ^ n))) (sym (whole-split x n hx)) ∙ ap (int_lt (whole x)) (sym (whole-split y n hy))

pub equal-value : (value : Node → Bool) (xs ys : List Node) (n : ℕ) (d r : Bool) → length xs ≡ suc n
    → length ys ≡ suc n → Differs d (unsigned (map value xs)) (unsigned (map value ys)) → r ≡ not d
    → r ≡ int_eq (whole (map value xs)) (whole (map value ys))
equal-value value xs ys n d r h k j e = equality (map value xs) (map value ys) n d r (length-map xs value ∙ h) (length-map ys value ∙ k) j e

negative : (z : ℤ) → pos 0 -ℤ z ≡ neg_ℤ z
negative z = grind arith

abs-neg : (z : ℤ) → unsigned_abs (neg_ℤ z) ≤ unsigned_abs z
abs-neg z = grind arith

pub neg-value : (value : Node → Bool) (a : Bits) (net : List Gate) (ds : List Node) → IsBits net a → a.most ≤ 2 ^ 88
    → unsigned_abs (number value a) ≤ a.most → length ds ≡ length a.nodes.items
    → IsNegation (unsigned (map value a.nodes.items)) (unsigned (map value ds)) (2 ^ length a.nodes.items)
    → whole (map value ds) ≡ neg_ℤ (number value a)
neg-value value a net ds is small within size j =
    let p = digits_of a.most (omega arith) in
    let n = p.0 in
    let w : length a.nodes.items ≡ suc n = is.width ∙ p.1.width in
    let balance : unsigned (map value ds) + unsigned (map value a.nodes.items) ≡ bit j.0 * 2 ^ suc n = j.1 ∙ ap (λ k. bit j.0 * 2 ^ k) w in
    negation-whole (map value a.nodes.items) (map value ds) j.0 n (length-map a.nodes.items value ∙ w) (length-map ds value ∙ size ∙ w) balance
    (in-range a.most n _ p.1.below (omega (arith, ap unsigned_abs (negative (number value a)), abs-neg (number value a), within)))
    ∙ negative (number value a)

pub neg-within : (z : ℤ) (x : ℤ) (m : ℕ) → z ≡ neg_ℤ x → unsigned_abs x ≤ m → unsigned_abs z ≤ m
neg-within z x m e h = omega (arith, ap unsigned_abs e, abs-neg x)

-- one more binary digit
pub binary-next : (value : Node → Bool) (done : List Node) (rest pattern : ℕ) (d : Node)
    → unsigned (map value done) + rest * 2 ^ length done ≡ pattern → value d ≡ nat_eq (rest % 2) 1
    → unsigned (map value (done ++ d ∷ [])) + (rest / 2) * 2 ^ length (done ++ d ∷ []) ≡ pattern
binary-next value done rest pattern d j e =
    let p = 2 ^ length done in
    let split : rest ≡ 2 * (rest / 2) + bit (value d) = parity rest (value d) e in
    let times : rest * p ≡ (2 * (rest / 2) + bit (value d)) * p = ap (λ r. r * p) split in
    let double : 2 ^ length (done ++ d ∷ []) ≡ p + p = ap (λ n. 2 ^ n) (length_push done d ∙ add-one (length done)) ∙ omega (arith, pow-suc 2 (length done)) in
    let third : unsigned (map value (done ++ d ∷ [])) ≡ unsigned (map value done) + bit (value d) * p =
    ap unsigned (map_push value done d) ∙ unsigned-push (map value done) (value d) ∙ ap (λ n. unsigned (map value done) + bit (value d) * 2 ^ n) (length-map done value) in
    rw (double, third) (grind (arith, times, j))

pub binary-none : (value : Node → Bool) (ns : List Node) (pattern : ℕ) → ns ≡ []
    → unsigned (map value ns) + pattern * 2 ^ length ns ≡ pattern
binary-none value ns pattern e = ap (λ xs. unsigned (map value xs) + pattern * 2 ^ length xs) e ∙ omega arith

pub binary-done : (u rest n pattern : ℕ) → rest < 1 → u + rest * 2 ^ n ≡ pattern → u ≡ pattern
binary-done u rest n pattern h e =
    let none : rest ≡ 0 = omega arith in
    let gone : u + 0 * 2 ^ n ≡ pattern = subst (λ r. u + r * 2 ^ n ≡ pattern) none e in
    omega (arith, gone)

-- the bits of a constant
pub constant-value : (n : ℤ) (nodes : List Node) (value : Node → Bool) (most pattern : ℕ) → unsigned_abs n ≡ most
    → most ≤ 2 ^ 80 → length nodes ≡ width_of most → unsigned (map value nodes) ≡ pattern
    → (pos 0 ≤ℤ n → pattern ≡ most) → (n <ℤ pos 0 → pattern + most ≡ 2 ^ width_of most) → whole (map value nodes) ≡ n
constant-value n nodes value most pattern abs small size e plain turned =
    let p = digits_of most (omega arith) in
    let k = p.0 in
    let w : width_of most ≡ suc k = p.1.width in
    constant-whole n (map value nodes) k most (length-map nodes value ∙ size ∙ w) abs p.1.below
    (λ h. e ∙ plain h)
    (λ h. omega (arith, e, turned h, ap (λ m. 2 ^ m) w))

-- a magnitude of 2 ^ 80 at most, and the width of its bits
pub record IsMagnitude (n : ℤ) (most width : ℕ) : Type 0 where
  pub abs : unsigned_abs n ≡ most
  pub small : most ≤ 2 ^ 80
  pub narrow : width < 128
  pub below : most < 2 ^ width

pub magnitude : (n : ℤ) (most width : ℕ) → most ≡ unsigned_abs n → unsigned_abs n ≤ 2 ^ 80 → width ≡ width_of most
    → IsMagnitude n most width
magnitude n most width e small w =
    let p = digits_of most (omega arith) in
    let size : width ≡ suc p.0 = w ∙ p.1.width in
    record {
      abs = sym e;
      small = omega arith;
      narrow = elim (cases_lt p.0 82) [
        | inl below ↦ omega arith
        | inr above ↦
            let far : 2 ^ 82 ≤ 2 ^ p.0 = pow-le-pow_right {n = 2} (omega arith) {i = 82} {j = p.0} above in
            absurd (omega (arith, far, p.1.needed))
      ];
      below = omega (arith, p.1.below, ap (λ m. 2 ^ m) size, pow-suc 2 p.0);
    }

-- the pattern of a number in two's complement
pub record IsPattern (n : ℤ) (most pattern width : ℕ) : Type 0 where
  pub plain : pos 0 ≤ℤ n → pattern ≡ most
  pub turned : n <ℤ pos 0 → pattern + most ≡ 2 ^ width
  pub below : pattern < 2 ^ width

pub pattern-then : (n : ℤ) (most pattern width : ℕ) → int_lt n (pos 0) ≡ true → IsMagnitude n most width
    → pattern ≡ (1 * 2 ^ width) % 2 ^ 128 - most → IsPattern n most pattern width
pattern-then (pos m) most pattern width t is e = absurd (omega (arith, ltb-true m 0 t))
pattern-then (negsuc m) most pattern width t is e =
    let shift = one_shl width 128 is.narrow in
    record { plain = λ i. absurd (omega (arith, ints, i)); turned = λ i. omega (arith, e, shift, is.below); below = omega (arith, e, shift, is.below, is.abs) }

pub pattern-else : (n : ℤ) (most pattern width : ℕ) → int_lt n (pos 0) ≡ false → IsMagnitude n most width
    → pattern ≡ most → IsPattern n most pattern width
pattern-else (pos m) most pattern width t is e = record { plain = λ i. e; turned = λ i. absurd (omega (arith, ints, i)); below = omega (arith, is.below) }
pattern-else (negsuc m) most pattern width t is e = absurd (cc)
