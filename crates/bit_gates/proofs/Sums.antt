-- Totals of nodes and of numbers.
use Rattle.std.proofs.Common.{◌≡◌, ◌<◌, ◌≤◌, ◌+◌, ◌*◌, ◌/◌, ◌%◌, ◌-◌, ◌^◌, ℕ, zero, suc, ℤ, Bool, true, false, List, [], ◌∷◌, ◌++◌, length, map, take, drop, get_or, refl, sym, ap, ◌∙◌, arith, subst, inl, inr}
use Rattle.std.specs.Prelude.{pos, ◌+ℤ◌, ◌&&◌, unsigned_abs, if◌then◌else◌, nat_eq}
use Rattle.std.specs.List.{All}
use Rattle.std.proofs.Math.Nat.{pow-le-pow_right}
use Rattle.std.proofs.lemmas.Bool.{cases_lt, eqb-true, eqb-false}
use Rattle.std.proofs.lemmas.Int.{ints}
use Rattle.std.proofs.lemmas.List.{take_more, take-append-drop, map_more, map_push, length-map}
use Rattle.std.proofs.lemmas.List.Elements.{All-weaker}
use Rattle.gate_net.specs.Net.{Always, IsNode, Continues, node_value}
use Rattle.gate_net.specs.declared.gate.Gate.{Gate}
use Rattle.gate_net.specs.declared.node.Node.{Node}
use Rattle.gate_net.proofs.Growth.{stays, always-on, turn}
use Rattle.bit_gates.specs.Whole.{bit, unsigned, sign, sign_after, whole, width_of}
use Rattle.bit_gates.specs.Bits.{IsBits, number}
use Rattle.bit_gates.specs.Totals.{IsPart, counted, total, bounds, widths}
use Rattle.bit_gates.specs.declared.bits.Bits.{Bits}
use Rattle.bit_gates.proofs.Widths.{HasDigits, digits_of, width-le}

-- bits of a net are bits of each net that continues it
pub bits-on : (net after : List Gate) (b : Bits) → Continues net after → IsBits net b → IsBits after b
bits-on net after b f is = record {
  nodes = All-weaker (IsNode net) (IsNode after) (λ n. stays net after n f) b.nodes.items is.nodes;
  width = is.width;
  within = always-on net after (λ value. unsigned_abs (number value b) ≤ b.most) f is.within;
}

pub width-one : width_of 1 ≡ 2
width-one =
    let p = digits_of 1 (omega arith) in
    elim (cases_lt p.0 2) [
      | inl below ↦ elim (cases_lt p.0 1) [
        | inl none ↦ let e : p.0 ≡ 0 = omega arith in absurd (omega (arith, p.1.below, ap (λ k. 2 ^ k) e))
        | inr one ↦ omega (arith, p.1.width)
      ]
      | inr above ↦
          let far : 2 ^ 2 ≤ 2 ^ p.0 = pow-le-pow_right {n = 2} (omega arith) {i = 2} {j = p.0} above in
          absurd (omega (arith, far, p.1.needed))
    ]

digit-whole : (b : Bool) → whole (b ∷ false ∷ []) ≡ pos (if b then 1 else 0)
digit-whole b = grind (arith, ints)

pub digit-value : (value : Node → Bool) (nodes : List Node) (n none : Node) → nodes ≡ n ∷ none ∷ []
    → value none ≡ false → whole (map value nodes) ≡ pos (if value n then 1 else 0)
digit-value value nodes n none e f = ap (λ ns. whole (map value ns)) e ∙ ap (λ b. whole (value n ∷ b ∷ [])) f ∙ digit-whole (value n)

pub digit-within : (b : Bool) (z : ℤ) → z ≡ pos (if b then 1 else 0) → unsigned_abs z ≤ 1
digit-within b z e = grind (arith, ints)

no-digits : (ns : List Node) → unsigned (map (λ (n : Node). false) ns) ≡ 0
no-digits [] = refl
no-digits (n ∷ ns) = omega (arith, no-digits ns)

no-sign_after : (ns : List Node) → sign_after false (map (λ (n : Node). false) ns) ≡ false
no-sign_after [] = refl
no-sign_after (n ∷ ns) = no-sign_after ns

no-sign : (ns : List Node) → sign (map (λ (n : Node). false) ns) ≡ false
no-sign [] = refl
no-sign (n ∷ ns) = no-sign_after ns

pub no-whole : (ns : List Node) → whole (map (λ (n : Node). false) ns) ≡ pos 0
no-whole ns =
    let none = map (λ (n : Node). false) ns in
    let worth : bit (sign none) * 2 ^ length none ≡ 0 = ap (λ s. bit s * 2 ^ length none) (no-sign ns) ∙ omega arith in
    let e = no-digits ns in
    omega (arith, ints, e, worth)

pub masked-value : (value : Node → Bool) (t : Bool) (ns done : List Node) → map value done ≡ map (λ n. t && value n) ns
    → whole (map value done) ≡ (if t then whole (map value ns) else pos 0)
masked-value value true ns done e = ap whole e
masked-value value false ns done e = ap whole e ∙ no-whole ns

pub masked-within : (t : Bool) (z x : ℤ) (m : ℕ) → z ≡ (if t then x else pos 0) → unsigned_abs x ≤ m
    → unsigned_abs z ≤ m
masked-within t z x m e h = grind (arith, ints)

pub masked-next : (value : Node → Bool) (t : Bool) (ns done : List Node) (i : ℕ) (d r : Node) → i < length ns
    → map value done ≡ map (λ n. t && value n) (take i ns) → value r ≡ (t && value (get_or ns i d))
    → map value (done ++ r ∷ []) ≡ map (λ n. t && value n) (take (i + 1) ns)
masked-next value t ns done i d r h e f =
    map_push value done r ∙ ap (λ bs. bs ++ value r ∷ []) e ∙ ap (λ b. map (λ n. t && value n) (take i ns) ++ b ∷ []) f ∙ sym (map_more (λ n. t && value n) ns i d h)

counted-push : (value : Node → Bool) (ns : List Node) (n : Node)
    → counted value (ns ++ n ∷ []) ≡ counted value ns + (if value n then 1 else 0)
counted-push value [] n = omega arith
counted-push value (m ∷ ns) n = omega (arith, counted-push value ns n)

pub counted-next : (value : Node → Bool) (ns : List Node) (i : ℕ) (d : Node) (z x y : ℤ) → i < length ns
    → x ≡ pos (counted value (take i ns)) → y ≡ pos (if value (get_or ns i d) then 1 else 0) → z ≡ x +ℤ y
    → z ≡ pos (counted value (take (i + 1) ns))
counted-next value ns i d z x y h e f g =
    g ∙ ap (λ a. a +ℤ y) e ∙ ap (λ b. pos (counted value (take i ns)) +ℤ b) f
    ∙ ap pos (sym (counted-push value (take i ns) (get_or ns i d)) ∙ ap (counted value) (sym (take_more ns i d h)))

-- a number by its half and its lowest digit
pub parity : (rest : ℕ) (b : Bool) → b ≡ nat_eq (rest % 2) 1 → rest ≡ 2 * (rest / 2) + bit b
parity rest true e = omega (arith, eqb-true (rest % 2) 1 (sym e))
parity rest false e = let ne = eqb-false (rest % 2) 1 (sym e) in omega (arith, ne)

total-push : (value : Node → Bool) (ps : List (Node × Bits)) (p : Node × Bits)
    → total value (ps ++ p ∷ []) ≡ total value ps +ℤ (if value p.0 then number value p.1 else pos 0)
total-push value [] p = omega (arith, ints)
total-push value (q ∷ ps) p = omega (arith, ints, total-push value ps p)

pub total-next : (value : Node → Bool) (ps : List (Node × Bits)) (i : ℕ) (d : Node × Bits) (z x y : ℤ) → i < length ps
    → x ≡ total value (take i ps) → y ≡ (if value (get_or ps i d).0 then number value (get_or ps i d).1 else pos 0)
    → z ≡ x +ℤ y → z ≡ total value (take (i + 1) ps)
total-next value ps i d z x y h e f g =
    g ∙ ap (λ a. a +ℤ y) e ∙ ap (λ b. total value (take i ps) +ℤ b) f
    ∙ sym (total-push value (take i ps) (get_or ps i d)) ∙ ap (total value) (sym (take_more ps i d h))

bounds-append : (ps qs : List (Node × Bits)) → bounds (ps ++ qs) ≡ bounds ps + bounds qs
bounds-append [] qs = omega arith
bounds-append (p ∷ ps) qs = omega (arith, bounds-append ps qs)

widths-append : (ps qs : List (Node × Bits)) → widths (ps ++ qs) ≡ widths ps + widths qs
widths-append [] qs = omega arith
widths-append (p ∷ ps) qs = omega (arith, widths-append ps qs)

pub bounds-push : (ps : List (Node × Bits)) (p : Node × Bits) → bounds (ps ++ p ∷ []) ≡ bounds ps + p.1.most
bounds-push ps p = omega (arith, bounds-append ps (p ∷ []))

pub widths-push : (ps : List (Node × Bits)) (p : Node × Bits)
    → widths (ps ++ p ∷ []) ≡ widths ps + length p.1.nodes.items
widths-push ps p = omega (arith, widths-append ps (p ∷ []))

pub bounds-next : (ps : List (Node × Bits)) (i : ℕ) (d : Node × Bits) → i < length ps
    → bounds (take (i + 1) ps) ≡ bounds (take i ps) + (get_or ps i d).1.most
bounds-next ps i d h = ap bounds (take_more ps i d h) ∙ bounds-push (take i ps) (get_or ps i d)

pub widths-next : (ps : List (Node × Bits)) (i : ℕ) (d : Node × Bits) → i < length ps
    → widths (take (i + 1) ps) ≡ widths (take i ps) + length (get_or ps i d).1.nodes.items
widths-next ps i d h = ap widths (take_more ps i d h) ∙ widths-push (take i ps) (get_or ps i d)

pub bounds-front : (ps : List (Node × Bits)) (i : ℕ) → bounds (take i ps) ≤ bounds ps
bounds-front ps i = omega (arith, ap bounds (take-append-drop i ps), bounds-append (take i ps) (drop i ps))

pub widths-front : (ps : List (Node × Bits)) (i : ℕ) → widths (take i ps) ≤ widths ps
widths-front ps i = omega (arith, ap widths (take-append-drop i ps), widths-append (take i ps) (drop i ps))

-- a part of a net is one of each net that continues it
pub part-on : (net after : List Gate) (of : List (Node × Bits)) (i : ℕ) (part : Node × Bits) → Continues net after
    → All (IsPart net) of → i < length of → part ≡ get_or of i part → IsPart after part
part-on net after of i part f parts h is =
    let own : IsPart net part = subst (IsPart net) (sym is) (parts i part h) in
    (stays net after part.0 f own.0, bits-on net after part.1 f own.1)

-- what one part more adds to a sum with bound m, where the part's own bound is k
pub record IsTurn (of : List (Node × Bits)) (i : ℕ) (part : Node × Bits) (m k : ℕ) : Type 0 where
  pub digits : widths (take (i + 1) of) ≡ widths (take i of) + length part.1.nodes.items
  pub few : widths (take (i + 1) of) ≤ widths of
  pub most : m + k ≡ bounds (take (i + 1) of)
  pub small : m + k ≤ bounds of
  pub wide : width_of (m + k) ≤ width_of (bounds of)
  pub nodes : 5 * width_of (bounds of) * i + 5 * width_of (bounds of) ≤ 5 * width_of (bounds of) * length of

pub turn-of : (of : List (Node × Bits)) (i : ℕ) (part : Node × Bits) (m k : ℕ) → i < length of
    → part ≡ get_or of i part → m ≡ bounds (take i of) → k ≡ part.1.most → bounds of ≤ 2 ^ 88 → IsTurn of i part m k
turn-of of i part m k h is e f small =
    let most : m + k ≡ bounds (take (i + 1) of) = omega (arith, bounds-next of i part h, ap (λ p. p.1.most) is) in
    let within : m + k ≤ bounds of = omega (arith, most, bounds-front of (i + 1)) in
    record {
      digits = omega (arith, widths-next of i part h, ap (λ p. length p.1.nodes.items) is);
      few = widths-front of (i + 1);
      most = most;
      small = within;
      wide = width-le (m + k) (bounds of) within (omega arith);
      nodes = turn (5 * width_of (bounds of)) i (length of) h;
    }
