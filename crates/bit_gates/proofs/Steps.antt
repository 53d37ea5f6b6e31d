-- One digit of a sum or a difference.
use Rattle.std.proofs.Common.{◌≡◌, ◌≢◌, ◌<◌, ◌≤◌, ◌+◌, ◌*◌, ◌^◌, ℕ, ◌||◌, Bool, true, false, List, [], ◌∷◌, ◌++◌, length, map, take, get_or, refl, subst, sym, ap, ◌∙◌, arith, add-one}
use Rattle.std.specs.Prelude.{if◌then◌else◌}
use Rattle.std.proofs.Math.Nat.{pow-suc}
use Rattle.std.proofs.lemmas.List.{length-map, length-take-le, map_more, map_push}
use Rattle.gate_net.specs.Net.{differ}
use Rattle.gate_net.specs.declared.node.Node.{Node}
use Rattle.bit_gates.specs.Whole.{bit, unsigned}
use Rattle.bit_gates.specs.Digits.{IsStep, IsJoin, Differs}
use Rattle.bit_gates.proofs.Wholes.{unsigned-push}
use Rattle.bit_gates.specs.declared.digits.Rule.{Rule}
use Rattle.bit_gates.specs.declared.digits.Rule.TheVariants.{Sum, Difference}

pub sum-step : (rule : Rule) (x y c t d r : Bool) → rule ≡ Sum → t ≡ differ x y → d ≡ differ t c
    → r ≡ (if t then c else x) → IsStep rule x y c d r
sum-step rule x y c t d r is e f g = grind arith

pub difference-step : (rule : Rule) (x y c t d r : Bool) → rule ≡ Difference → t ≡ differ x y → d ≡ differ t c
    → r ≡ (if t then y else c) → IsStep rule x y c d r
difference-step rule x y c t d r is e f g = grind arith

join-more : (rule : Rule) (u v s p : ℕ) (x y c d r : Bool) → IsJoin rule u v s (bit c * p) → IsStep rule x y c d r
    → IsJoin rule (u + bit x * p) (v + bit y * p) (s + bit d * p) (bit r * (p + p))
join-more Sum u v s p x y c d r j step =
    let e : (bit d + 2 * bit r) * p ≡ (bit x + bit y + bit c) * p = ap (λ n. n * p) step in
    grind (arith, e, j)
join-more Difference u v s p x y c d r j step =
    let e : (bit d + bit y + bit c) * p ≡ (bit x + 2 * bit r) * p = ap (λ n. n * p) step in
    grind (arith, e, j)

digit-more : (value : Node → Bool) (xs : List Node) (i : ℕ) (d : Node) → i < length xs
    → unsigned (map value (take (i + 1) xs)) ≡ unsigned (map value (take i xs)) + bit (value (get_or xs i d)) * 2 ^ i
digit-more value xs i d h =
    let within : i ≤ length xs = omega arith in
    let size : length (map value (take i xs)) ≡ i = length-map (take i xs) value ∙ length-take-le i xs within in
    ap unsigned (map_more value xs i d h) ∙ unsigned-push (map value (take i xs)) (value (get_or xs i d)) ∙ ap (λ n. unsigned (map value (take i xs)) + bit (value (get_or xs i d)) * 2 ^ n) size

pub join-next : (rule : Rule) (value : Node → Bool) (xs ys done : List Node) (i : ℕ) (e c d r : Node) → i < length xs
    → i < length ys → length done ≡ i
    → IsJoin rule (unsigned (map value (take i xs))) (unsigned (map value (take i ys))) (unsigned (map value done))
    (bit (value c) * 2 ^ i)
    → IsStep rule (value (get_or xs i e)) (value (get_or ys i e)) (value c) (value d) (value r)
    → IsJoin rule (unsigned (map value (take (i + 1) xs))) (unsigned (map value (take (i + 1) ys)))
    (unsigned (map value (done ++ d ∷ []))) (bit (value r) * 2 ^ (i + 1))
join-next rule value xs ys done i e c d r h k size j step =
    let p = 2 ^ i in
    let double : p + p ≡ 2 ^ (i + 1) = omega (arith, pow-suc 2 i, ap (λ n. 2 ^ n) (add-one i)) in
    let more = join-more rule (unsigned (map value (take i xs))) (unsigned (map value (take i ys))) (unsigned (map value done)) p (value (get_or xs i e)) (value (get_or ys i e)) (value c) (value d) (value r) j step in
    let first = sym (digit-more value xs i e h) in
    let second = sym (digit-more value ys i e k) in
    let third : unsigned (map value done) + bit (value d) * p ≡ unsigned (map value (done ++ d ∷ [])) =
    ap (λ n. unsigned (map value done) + bit (value d) * 2 ^ n) (sym (length-map done value ∙ size)) ∙ sym (unsigned-push (map value done) (value d)) ∙ ap unsigned (sym (map_push value done d)) in
    rw (double, first, second, third) at more

pub unsigned-lt : (bits : List Bool) → unsigned bits < 2 ^ length bits
unsigned-lt [] = omega arith
unsigned-lt (b ∷ bits) = grind (arith, unsigned-lt bits, pow-suc 2 (length bits))

pub front-lt : (value : Node → Bool) (xs : List Node) (i : ℕ) → i ≤ length xs → unsigned (map value (take i xs)) < 2 ^ i
front-lt value xs i h =
    let size : length (map value (take i xs)) ≡ i = length-map (take i xs) value ∙ length-take-le i xs h in
    omega (arith, unsigned-lt (map value (take i xs)), ap (λ n. 2 ^ n) size)

differ-cases : (d x y : Bool) (u v p : ℕ) → u < p → v < p → Differs d u v
    → Differs (d || differ x y) (u + bit x * p) (v + bit y * p)
differ-cases d x y u v p h k j = record { same = grind arith; apart = grind arith }

pub differ-next : (value : Node → Bool) (xs ys : List Node) (i : ℕ) (e : Node) (d t r : Bool) → i < length xs
    → i < length ys → Differs d (unsigned (map value (take i xs))) (unsigned (map value (take i ys)))
    → t ≡ differ (value (get_or xs i e)) (value (get_or ys i e)) → r ≡ (d || t)
    → Differs r (unsigned (map value (take (i + 1) xs))) (unsigned (map value (take (i + 1) ys)))
differ-next value xs ys i e d t r h k j is o =
    let more = differ-cases d (value (get_or xs i e)) (value (get_or ys i e)) _ _ (2 ^ i) (front-lt value xs i (omega arith)) (front-lt value ys i (omega arith)) j in
    let first = sym (digit-more value xs i e h) in
    let second = sym (digit-more value ys i e k) in
    let whole : r ≡ (d || differ (value (get_or xs i e)) (value (get_or ys i e))) = o ∙ ap (λ b. d || b) is in
    subst (λ b. Differs b (unsigned (map value (take (i + 1) xs))) (unsigned (map value (take (i + 1) ys)))) (sym whole) (rw (first, second) at more)

pub negation-next : (value : Node → Bool) (ys done : List Node) (i : ℕ) (e b d r : Node) → i < length ys
    → length done ≡ i → unsigned (map value done) + unsigned (map value (take i ys)) ≡ bit (value b) * 2 ^ i
    → bit (value d) + bit (value (get_or ys i e)) + bit (value b) ≡ 2 * bit (value r)
    → unsigned (map value (done ++ d ∷ [])) + unsigned (map value (take (i + 1) ys)) ≡ bit (value r) * 2 ^ (i + 1)
negation-next value ys done i e b d r k size j step =
    let p = 2 ^ i in
    let double : p + p ≡ 2 ^ (i + 1) = omega (arith, pow-suc 2 i, ap (λ n. 2 ^ n) (add-one i)) in
    let times : (bit (value d) + bit (value (get_or ys i e)) + bit (value b)) * p ≡ (2 * bit (value r)) * p = ap (λ n. n * p) step in
    let more : (unsigned (map value done) + bit (value d) * p) + (unsigned (map value (take i ys)) + bit (value (get_or ys i e)) * p) ≡ bit (value r) * (p + p) = grind (arith, times, j) in
    let second = sym (digit-more value ys i e k) in
    let third : unsigned (map value done) + bit (value d) * p ≡ unsigned (map value (done ++ d ∷ [])) =
    ap (λ n. unsigned (map value done) + bit (value d) * 2 ^ n) (sym (length-map done value ∙ size)) ∙ sym (unsigned-push (map value done) (value d)) ∙ ap unsigned (sym (map_push value done d)) in
    rw (double, second, third) at more
