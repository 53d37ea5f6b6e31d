-- The width of bits with a bound.
use Rattle.std.proofs.Common.{◌≡◌, ◌<◌, ◌≤◌, ◌+◌, ◌-◌, ◌*◌, ◌^◌, ℕ, zero, suc, ℤ, Bool, List, [], ◌∷◌, ◌++◌, length, map, take, replicate, get_or, refl, sym, ap, ◌∙◌, arith, inl, inr, length-append, length-take}
use Rattle.std.specs.Prelude.{pos, negsuc, ◌+ℤ◌, ◌-ℤ◌, unsigned_abs}
use Rattle.std.specs.List.{All}
use Rattle.std.proofs.lemmas.List.{append-nil, length-map, length-replicate, map-append, take-map, take_all}
use Rattle.std.proofs.lemmas.List.Elements.{All-append, All-take, All-replicate, All-same}
use Rattle.std.proofs.lemmas.Int.{ints}
use Rattle.gate_net.specs.Net.{IsNode}
use Rattle.gate_net.specs.declared.gate.Gate.{Gate}
use Rattle.gate_net.specs.declared.node.Node.{Node}
use Rattle.std.specs.Int.{w128, leading_zeros}
use Rattle.std.proofs.Math.Nat.{pow-suc, pow-le-pow_right}
use Rattle.std.proofs.lemmas.Nat.{leading_length}
use Rattle.std.proofs.lemmas.Bool.{cases_lt}
use Rattle.bit_gates.specs.Whole.{IsLeastWidth, width_of, sign, sign_after, whole}
use Rattle.bit_gates.specs.Digits.{last_of, resized_to}
use Rattle.bit_gates.proofs.Wholes.{InRange, whole-cut, whole-widened}

-- the binary digits of a number: its width less one
pub record HasDigits (most n : ℕ) : Type 0 where
  pub width : width_of most ≡ suc n
  pub below : most < 2 ^ n
  pub needed : 2 ^ n ≤ 2 * most + 1

pub digits_of : (most : ℕ) → most < 2 ^ 128 → (n : ℕ) × HasDigits most n
digits_of most h =
    let p = leading_length 128 most h in
    (p.0, record { width = omega (arith, p.1); below = p.2; needed = p.3 })

pub least-width : (most width : ℕ) → most < 2 ^ 128 → width ≡ width_of most → IsLeastWidth width most
least-width most width h e =
    let p = digits_of most h in
    let size : width ≡ suc p.0 = e ∙ p.1.width in
    let lower : width - 1 ≡ p.0 = omega arith in
    record {
      some = omega arith;
      fits = omega (arith, p.1.below, ap (λ n. 2 ^ n) lower);
      least = λ k small. elim (cases_lt k p.0) [
        | inl below ↦
            let far : 2 ^ suc k ≤ 2 ^ p.0 = pow-le-pow_right {n = 2} (omega arith) {i = suc k} {j = p.0} (omega arith) in
            absurd (omega (arith, far, pow-suc 2 k, p.1.needed, small))
        | inr not ↦ omega arith
      ];
    }

pub digits-le : (m n j k : ℕ) → m ≤ n → HasDigits m j → HasDigits n k → j ≤ k
digits-le m n j k h p q = elim (cases_lt k j) [
  | inl above ↦
      let far : 2 ^ suc k ≤ 2 ^ j = pow-le-pow_right {n = 2} (omega arith) {i = suc k} {j = j} (omega arith) in
      absurd (omega (arith, far, pow-suc 2 k, p.needed, q.below))
  | inr not ↦ not
]

-- a number within the bound fits the width
pub in-range : (most n : ℕ) (z : ℤ) → most < 2 ^ n → unsigned_abs z ≤ most → InRange (2 ^ n) z
in-range most n (pos k) h f = record { low = omega (arith, ints); high = omega (arith, ints) }
in-range most n (negsuc k) h f = record { low = omega (arith, ints); high = omega (arith, ints) }

pub abs-add : (x y : ℤ) → unsigned_abs (x +ℤ y) ≤ unsigned_abs x + unsigned_abs y
abs-add x y = grind arith

pub abs-sub : (x y : ℤ) → unsigned_abs (x -ℤ y) ≤ unsigned_abs x + unsigned_abs y
abs-sub x y = grind arith

sign_last : (value : Node → Bool) (n : Node) (nodes : List Node) (d : Node)
    → sign_after (value n) (map value nodes) ≡ value (get_or (n ∷ nodes) (length nodes) d)
sign_last value n [] d = refl
sign_last value n (m ∷ nodes) d = sign_last value m nodes d

pub sign-last : (value : Node → Bool) (nodes : List Node) → 0 < length nodes
    → sign (map value nodes) ≡ value (last_of nodes)
sign-last value [] h = absurd (omega arith)
sign-last value (n ∷ nodes) h =
    let e : length nodes ≡ suc (length nodes) - 1 = omega arith in
    sign_last value n nodes (record { place = 0 }) ∙ ap (λ k. value (get_or (n ∷ nodes) k (record { place = 0 }))) e

pub length-resized : (nodes : List Node) (width : ℕ) → length (resized_to nodes width) ≡ width
length-resized nodes width =
    omega (arith, length-append (take width nodes) (replicate (width - length nodes) (last_of nodes)), length-take width nodes, length-replicate (width - length nodes) (last_of nodes))

pub nodes-resized : (net : List Gate) (nodes : List Node) (width : ℕ) (resized : List Node) → 0 < length nodes
    → All (IsNode net) nodes → resized ≡ resized_to nodes width → All (IsNode net) resized
nodes-resized net nodes width resized h all e =
    All-same (IsNode net) resized (resized_to nodes width) e (All-append (IsNode net) (take width nodes) (replicate (width - length nodes) (last_of nodes)) (All-take (IsNode net) width nodes all)
    (All-replicate (IsNode net) (width - length nodes) (last_of nodes) (all (length nodes - 1) (record { place = 0 }) (omega arith))))

map-replicate : (value : Node → Bool) (k : ℕ) (n : Node) → map value (replicate k n) ≡ replicate k (value n)
map-replicate value zero n = refl
map-replicate value (suc k) n = ap (λ bs. value n ∷ bs) (map-replicate value k n)

-- nodes mean the same number at each width at which the number fits
pub whole-resized : (value : Node → Bool) (nodes : List Node) (n : ℕ) → 0 < length nodes
    → InRange (2 ^ n) (whole (map value nodes)) → whole (map value (resized_to nodes (suc n))) ≡ whole (map value nodes)
whole-resized value nodes n h f =
    let more = suc n - length nodes in
    let bits = map value nodes in
    let size : length bits ≡ length nodes = length-map nodes value in
    let split : map value (resized_to nodes (suc n)) ≡ take (suc n) bits ++ replicate more (value (last_of nodes)) =
    map-append value (take (suc n) nodes) (replicate more (last_of nodes)) ∙ ap (λ b. b ++ map value (replicate more (last_of nodes))) (sym (take-map value (suc n) nodes)) ∙ ap (λ b. take (suc n) bits ++ b) (map-replicate value more (last_of nodes)) in
    elim (cases_lt n (length nodes)) [
      | inl cut ↦
          let none : more ≡ 0 = omega arith in
          let within : n < length bits = omega arith in
          ap whole (split ∙ ap (λ k. take (suc n) bits ++ replicate k (value (last_of nodes))) none ∙ append-nil (take (suc n) bits)) ∙ whole-cut n bits within f
      | inr wide ↦
          let all : take (suc n) bits ≡ bits = take_all (suc n) bits (omega arith) in
          ap whole (split ∙ ap (λ b. b ++ replicate more (value (last_of nodes))) all) ∙ whole-widened bits (value (last_of nodes)) more (sign-last value nodes h)
    ]

pub width-le : (m k : ℕ) → m ≤ k → k < 2 ^ 128 → width_of m ≤ width_of k
width-le m k h small =
    let p = digits_of m (omega arith) in
    let q = digits_of k small in
    omega (arith, p.1.width, q.1.width, digits-le m k p.0 q.0 h p.1 q.1)
