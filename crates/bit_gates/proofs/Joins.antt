-- Sums and differences of bits.
use Rattle.std.proofs.Common.{◌≡◌, ◌<◌, ◌≤◌, ◌+◌, ◌*◌, ◌^◌, ◌-◌, ℕ, suc, ℤ, Bool, List, length, map, sym, ap, ◌∙◌, arith, subst, Result, Ok, Err, IfOk}
use Rattle.std.specs.Prelude.{◌+ℤ◌, ◌-ℤ◌, unsigned_abs}
use Rattle.std.specs.List.{All}
use Rattle.std.proofs.lemmas.List.{length-map}
use Rattle.gate_net.specs.Net.{Always, IsNode, Continues, node_value}
use Rattle.gate_net.specs.declared.gate.Gate.{Gate}
use Rattle.gate_net.specs.declared.node.Node.{Node}
use Rattle.gate_net.proofs.Growth.{continues-then}
use Rattle.bit_gates.specs.Whole.{bit, unsigned, whole, width_of}
use Rattle.bit_gates.specs.Bits.{IsBits, number}
use Rattle.bit_gates.specs.Digits.{IsJoin, joined_number, resized_to}
use Rattle.bit_gates.specs.declared.bits.Bits.{Bits}
use Rattle.bit_gates.specs.declared.digits.Rule.{Rule}
use Rattle.bit_gates.specs.declared.digits.Rule.TheVariants.{Sum, Difference}
use Rattle.bit_gates.proofs.Wholes.{InRange, sum-whole, difference-whole}
use Rattle.bit_gates.proofs.Widths.{HasDigits, digits_of, in-range, abs-add, abs-sub, length-resized, nodes-resized, whole-resized}
use Rattle.std.proofs.Math.Nat.{pow-le-pow_right}

pub abs-joined : (rule : Rule) (x y : ℤ) → unsigned_abs (joined_number rule x y) ≤ unsigned_abs x + unsigned_abs y
abs-joined Sum x y = abs-add x y
abs-joined Difference x y = abs-sub x y

-- digits that join two numbers, at a width at which the result fits, mean their sum or difference
whole-join : (rule : Rule) (xs ys ds : List Bool) (c : Bool) (n : ℕ) → length xs ≡ suc n → length ys ≡ suc n
    → length ds ≡ suc n → IsJoin rule (unsigned xs) (unsigned ys) (unsigned ds) (bit c * 2 ^ suc n)
    → InRange (2 ^ n) (joined_number rule (whole xs) (whole ys)) → whole ds ≡ joined_number rule (whole xs) (whole ys)
whole-join Sum xs ys ds c n h k l j f = sum-whole xs ys ds c n h k l j f
whole-join Difference xs ys ds c n h k l j f = difference-whole xs ys ds c n h k l j f

-- bits have a digit
pub some-digit : (net : List Gate) (b : Bits) → IsBits net b → b.most < 2 ^ 128 → 0 < length b.nodes.items
some-digit net b is h = let p = digits_of b.most h in omega (arith, is.width, p.1.width)

joined-number : (rule : Rule) (value : Node → Bool) (ms ns ds : List Node) (m k n : ℕ) (c : Bool) → 0 < length ms
    → 0 < length ns → length ds ≡ suc n → m + k < 2 ^ n → unsigned_abs (whole (map value ms)) ≤ m
    → unsigned_abs (whole (map value ns)) ≤ k
    → IsJoin rule (unsigned (map value (resized_to ms (suc n)))) (unsigned (map value (resized_to ns (suc n))))
    (unsigned (map value ds)) (bit c * 2 ^ suc n)
    → whole (map value ds) ≡ joined_number rule (whole (map value ms)) (whole (map value ns))
joined-number rule value ms ns ds m k n c some any size below first second join =
    let xs = map value (resized_to ms (suc n)) in
    let ys = map value (resized_to ns (suc n)) in
    let x : whole xs ≡ whole (map value ms) = whole-resized value ms n some (in-range m n _ (omega arith) first) in
    let y : whole ys ≡ whole (map value ns) = whole-resized value ns n any (in-range k n _ (omega arith) second) in
    let together : joined_number rule (whole xs) (whole ys) ≡ joined_number rule (whole (map value ms)) (whole (map value ns)) =
    ap (λ z. joined_number rule z (whole ys)) x ∙ ap (joined_number rule (whole (map value ms))) y in
    let bound : unsigned_abs (joined_number rule (whole (map value ms)) (whole (map value ns))) ≤ m + k =
    omega (arith, abs-joined rule (whole (map value ms)) (whole (map value ns)), first, second) in
    whole-join rule xs ys (map value ds) c n
    (length-map (resized_to ms (suc n)) value ∙ length-resized ms (suc n))
    (length-map (resized_to ns (suc n)) value ∙ length-resized ns (suc n))
    (length-map ds value ∙ size)
    join
    (subst (InRange (2 ^ n)) (sym together) (in-range (m + k) n _ below bound))
    ∙ together

pub joined-value : (rule : Rule) (before net : List Gate) (a b : Bits) (ds first second : List Node) (c : Node)
    (width : ℕ) → IsBits before a → IsBits before b → Continues before net → a.most + b.most ≤ 2 ^ 88
    → width ≡ width_of (a.most + b.most) → first ≡ resized_to a.nodes.items width
    → second ≡ resized_to b.nodes.items width → length ds ≡ length first
    → Always net (λ value. IsJoin rule (unsigned (map value first)) (unsigned (map value second))
    (unsigned (map value ds)) (bit (value c) * 2 ^ length first))
    → Always net (λ value. whole (map value ds) ≡ joined_number rule (number value a) (number value b))
joined-value rule before net a b ds first second c width is also f small wide e g size join = λ later h inputs.
    let value = node_value later inputs in
    let p = digits_of (a.most + b.most) (omega arith) in
    let n = p.0 in
    let w : width ≡ suc n = wide ∙ p.1.width in
    let xs : first ≡ resized_to a.nodes.items (suc n) = e ∙ ap (resized_to a.nodes.items) w in
    let ys : second ≡ resized_to b.nodes.items (suc n) = g ∙ ap (resized_to b.nodes.items) w in
    let whole_size : length first ≡ suc n = ap length xs ∙ length-resized a.nodes.items (suc n) in
    let on = continues-then before net later f h in
    let here = rw (whole_size, xs, ys) at (join later h inputs) in
    joined-number rule value a.nodes.items b.nodes.items ds a.most b.most n (value c)
    (some-digit before a is (omega arith)) (some-digit before b also (omega arith))
    (size ∙ whole_size) p.1.below (is.within later on inputs) (also.within later on inputs) here

pub joined-within : (rule : Rule) (before net : List Gate) (a b : Bits) (ds : List Node) → IsBits before a
    → IsBits before b → Continues before net
    → Always net (λ value. whole (map value ds) ≡ joined_number rule (number value a) (number value b))
    → Always net (λ value. unsigned_abs (whole (map value ds)) ≤ a.most + b.most)
joined-within rule before net a b ds is also f same = λ later h inputs.
    let value = node_value later inputs in
    let on = continues-then before net later f h in
    omega (arith, ap unsigned_abs (same later h inputs), abs-joined rule (number value a) (number value b), is.within later on inputs, also.within later on inputs)

-- the nodes of bits at another width
pub record AtWidth (net : List Gate) (a : Bits) (width : ℕ) (nodes : List Node) : Type 0 where
  pub size : length nodes ≡ width
  pub all : All (IsNode net) nodes
  pub means : Always net (λ value. whole (map value nodes) ≡ number value a)

pub at-width : (net : List Gate) (a : Bits) (wide : ℕ) (ns : List Node) → IsBits net a → a.most < 2 ^ 128
    → width_of a.most ≤ wide → ns ≡ resized_to a.nodes.items wide → AtWidth net a wide ns
at-width net a wide ns is small h e =
    let p = digits_of a.most small in
    let n = wide - 1 in
    let some = some-digit net a is small in
    let w : wide ≡ suc n = omega (arith, p.1.width) in
    let far : 2 ^ p.0 ≤ 2 ^ n = pow-le-pow_right {n = 2} (omega arith) {i = p.0} {j = n} (omega (arith, p.1.width)) in
    record {
      size = ap length e ∙ length-resized a.nodes.items wide;
      all = nodes-resized net a.nodes.items wide ns some is.nodes e;
      means = λ later f inputs.
          let value = node_value later inputs in
          ap (λ ms. whole (map value ms)) (e ∙ ap (resized_to a.nodes.items) w) ∙ whole-resized value a.nodes.items n some (in-range a.most n _ (omega (arith, p.1.below, far)) (is.within later f inputs));
    }

pub at-width-result : {E V : Type 0} (r : Result V E) (items : V → List Node) (net : List Gate) (a : Bits) (wide : ℕ)
    → IsBits net a → a.most < 2 ^ 128 → width_of a.most ≤ wide → IfOk r (λ v. items v ≡ resized_to a.nodes.items wide)
    → IfOk r (λ v. AtWidth net a wide (items v))
at-width-result (Ok v) items net a wide is small h e = at-width net a wide (items v) is small h e
at-width-result (Err x) items net a wide is small h e = tt
