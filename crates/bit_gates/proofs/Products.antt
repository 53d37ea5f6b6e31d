-- Products by a constant, digit by digit.
use Rattle.std.proofs.Common.{◌≡◌, ◌<◌, ◌≤◌, ◌+◌, ◌*◌, ◌/◌, ◌%◌, ◌-◌, ◌^◌, ℕ, zero, suc, ℤ, Bool, true, false, List, [], ◌∷◌, ◌++◌, length, map, replicate, drop, get_or, refl, sym, ap, ◌∙◌, arith, subst}
use Rattle.std.specs.Prelude.{pos, negsuc, neg_ℤ, ◌+ℤ◌, ◌*ℤ◌, ◌≤ℤ◌, ◌<ℤ◌, unsigned_abs, int_lt, if◌then◌else◌, nat_eq}
use Rattle.std.proofs.Math.IntN.{suc_ℤ-*ℤ, zero-*ℤ, *ℤ_comm, *ℤ-negsuc}
use Rattle.std.proofs.lemmas.Int.{ints, unsigned_abs-mul}
use Rattle.std.proofs.lemmas.Nat.{mul-le}
use Rattle.std.proofs.lemmas.List.{length-map, map-append, map_push}
use Rattle.std.proofs.lemmas.Bool.{ltb-true}
use Rattle.gate_net.specs.declared.node.Node.{Node}
use Rattle.bit_gates.specs.Whole.{bit, unsigned, sign, whole, width_of}
use Rattle.bit_gates.specs.Digits.{IsJoin, resized_to}
use Rattle.bit_gates.specs.declared.digits.Rule.TheVariants.{Sum}
use Rattle.bit_gates.proofs.Wholes.{InRange, range-cases, halves_of, twice, sum-whole, whole-cons}
use Rattle.bit_gates.proofs.Widths.{HasDigits, digits_of, in-range, length-resized, whole-resized}
use Rattle.bit_gates.proofs.Sums.{no-whole, parity}
use Rattle.gate_net.proofs.Growth.{turn}

width-range : (bits : List Bool) (n : ℕ) → length bits ≡ suc n → InRange (2 ^ n) (whole bits)
width-range bits n size = range-cases (2 ^ n) (unsigned bits) (sign bits) (whole bits) (halves_of bits n size)

double-range : (h k : ℕ) (z : ℤ) → k ≡ h + h → InRange h z → InRange k z
double-range h k z e f = record { low = omega (arith, ints, f.low, f.high); high = omega (arith, ints, f.low, f.high) }

sum-range : (h k : ℕ) (x y : ℤ) → k ≡ h + h → InRange h x → InRange h y → InRange k (x +ℤ y)
sum-range h k x y e f g = record { low = omega (arith, ints, f.low, g.low); high = omega (arith, ints, f.high, g.high) }

-- one digit more doesn't change the number
wider : (value : Node → Bool) (ns : List Node) (n : ℕ) → length ns ≡ suc n
    → whole (map value (resized_to ns (suc (suc n)))) ≡ whole (map value ns)
wider value ns n size =
    whole-resized value ns (suc n) (omega arith) (double-range (2 ^ n) (2 ^ suc n) _ (twice n) (width-range (map value ns) n (length-map ns value ∙ size)))

pub wider-value : (value : Node → Bool) (xs first : List Node) → 0 < length xs → first ≡ resized_to xs (length xs + 1)
    → whole (map value first) ≡ whole (map value xs)
wider-value value xs first some e =
    let n = length xs - 1 in
    let w : length xs + 1 ≡ suc (suc n) = omega arith in
    ap (λ ns. whole (map value ns)) (e ∙ ap (resized_to xs) w) ∙ wider value xs n (omega arith)

-- the sum of two numbers of one width fits one digit more
wider-sum : (value : Node → Bool) (xs ys ds : List Node) (c : Bool) (n : ℕ) → length xs ≡ suc n → length ys ≡ suc n
    → length ds ≡ suc (suc n)
    → unsigned (map value ds) + bit c * 2 ^ suc (suc n)
    ≡ unsigned (map value (resized_to xs (suc (suc n)))) + unsigned (map value (resized_to ys (suc (suc n))))
    → whole (map value ds) ≡ whole (map value xs) +ℤ whole (map value ys)
wider-sum value xs ys ds c n h k l e =
    let first = map value (resized_to xs (suc (suc n))) in
    let second = map value (resized_to ys (suc (suc n))) in
    let x : whole first ≡ whole (map value xs) = wider value xs n h in
    let y : whole second ≡ whole (map value ys) = wider value ys n k in
    let range : InRange (2 ^ suc n) (whole (map value xs) +ℤ whole (map value ys)) =
    sum-range (2 ^ n) (2 ^ suc n) _ _ (twice n) (width-range (map value xs) n (length-map xs value ∙ h)) (width-range (map value ys) n (length-map ys value ∙ k)) in
    let together : whole first +ℤ whole second ≡ whole (map value xs) +ℤ whole (map value ys) =
    ap (λ z. z +ℤ whole second) x ∙ ap (λ z. whole (map value xs) +ℤ z) y in
    sum-whole first second (map value ds) c (suc n)
    (length-map (resized_to xs (suc (suc n))) value ∙ length-resized xs (suc (suc n)))
    (length-map (resized_to ys (suc (suc n))) value ∙ length-resized ys (suc (suc n)))
    (length-map ds value ∙ l) e (subst (InRange (2 ^ suc n)) (sym together) range)
    ∙ together

pub sum-value : (value : Node → Bool) (xs ys ds first second : List Node) (c : Bool) (width : ℕ) → 0 < length xs
    → length ys ≡ length xs → width ≡ length xs + 1 → first ≡ resized_to xs width → second ≡ resized_to ys width
    → length ds ≡ length first
    → IsJoin Sum (unsigned (map value first)) (unsigned (map value second)) (unsigned (map value ds))
    (bit c * 2 ^ length first) → whole (map value ds) ≡ whole (map value xs) +ℤ whole (map value ys)
sum-value value xs ys ds first second c width some same wide e f size join =
    let n = length xs - 1 in
    let w : width ≡ suc (suc n) = omega arith in
    let one : first ≡ resized_to xs (suc (suc n)) = e ∙ ap (resized_to xs) w in
    let two : second ≡ resized_to ys (suc (suc n)) = f ∙ ap (resized_to ys) w in
    let l : length first ≡ suc (suc n) = ap length one ∙ length-resized xs (suc (suc n)) in
    let balance : unsigned (map value ds) + bit c * 2 ^ length first ≡ unsigned (map value (resized_to xs (suc (suc n)))) + unsigned (map value (resized_to ys (suc (suc n)))) =
    join ∙ ap (λ ns. unsigned (map value ns) + unsigned (map value second)) one ∙ ap (λ ns. unsigned (map value (resized_to xs (suc (suc n)))) + unsigned (map value ns)) two in
    wider-sum value xs ys ds c n (omega arith) (omega arith) (size ∙ l) (ap (λ k. unsigned (map value ds) + bit c * 2 ^ k) (sym l) ∙ balance)

pub if-wanted : (w : Bool) (z x y : ℤ) → w ≡ true → z ≡ x +ℤ y → z ≡ x +ℤ (if w then y else pos 0)
if-wanted w z x y e f = grind (arith, ints)

pub if-unwanted : (w : Bool) (z x y : ℤ) → w ≡ false → z ≡ x → z ≡ x +ℤ (if w then y else pos 0)
if-unwanted w z x y e f = grind (arith, ints)

-- a multiple by two factors together
times-add : (m n : ℕ) (a : ℤ) → pos (m + n) *ℤ a ≡ (pos m *ℤ a) +ℤ (pos n *ℤ a)
times-add zero n a = let z = zero-*ℤ a in omega (arith, ints, z)
times-add (suc m) n a =
    let one : pos (suc (m + n)) *ℤ a ≡ (pos (m + n) *ℤ a) +ℤ a = suc_ℤ-*ℤ (pos (m + n)) a in
    let two : pos (suc m) *ℤ a ≡ (pos m *ℤ a) +ℤ a = suc_ℤ-*ℤ (pos m) a in
    let e = times-add m n a in
    omega (arith, ints, one, two, e)

times-bit : (b : Bool) (a : ℤ) → pos (bit b) *ℤ a ≡ (if b then a else pos 0)
times-bit true a = let one : pos 1 *ℤ a ≡ (pos 0 *ℤ a) +ℤ a = suc_ℤ-*ℤ (pos 0) a in omega (arith, ints, one, zero-*ℤ a)
times-bit false a = zero-*ℤ a

times-split : (rest half : ℕ) (b : Bool) (a : ℤ) → rest ≡ 2 * half + bit b
    → pos rest *ℤ a ≡ ((pos half *ℤ a) +ℤ (pos half *ℤ a)) +ℤ (if b then a else pos 0)
times-split rest half b a e =
    ap (λ n. pos n *ℤ a) (e ∙ omega arith) ∙ times-add (half + half) (bit b) a
    ∙ ap (λ z. z +ℤ (pos (bit b) *ℤ a)) (times-add half half a)
    ∙ ap (λ z. ((pos half *ℤ a) +ℤ (pos half *ℤ a)) +ℤ z) (times-bit b a)

-- what is still to be added, without the lowest digit of its sum with the next part
parts-next : (rest : ℕ) (b d : Bool) (a higher sum next : ℤ) → b ≡ nat_eq (rest % 2) 1
    → sum ≡ higher +ℤ (if b then a else pos 0) → sum ≡ pos (bit d) +ℤ (next +ℤ next)
    → higher +ℤ (pos rest *ℤ a) ≡ pos (bit d) +ℤ ((next +ℤ (pos (rest / 2) *ℤ a)) +ℤ (next +ℤ (pos (rest / 2) *ℤ a)))
parts-next rest b d a higher sum next e f g =
    let t = times-split rest (rest / 2) b a (parity rest b e) in
    omega (arith, ints, f, g, t)

-- the number of lower digits, and of what is above them
abbrev pub above : List Bool → ℤ → ℤ
above [] z = z
above (b ∷ bits) z = pos (bit b) +ℤ (above bits z +ℤ above bits z)

above-push : (bits : List Bool) (d : Bool) (z : ℤ) → above (bits ++ d ∷ []) z ≡ above bits (pos (bit d) +ℤ (z +ℤ z))
above-push [] d z = refl
above-push (b ∷ bits) d z = ap (λ y. pos (bit b) +ℤ (y +ℤ y)) (above-push bits d z)

above-whole : (bits : List Bool) (c : Bool) (rest : List Bool)
    → above bits (whole (c ∷ rest)) ≡ whole (bits ++ c ∷ rest)
above-whole [] c rest = refl
above-whole (b ∷ []) c rest = sym (whole-cons b c rest)
above-whole (b ∷ d ∷ bits) c rest = ap (λ y. pos (bit b) +ℤ (y +ℤ y)) (above-whole (d ∷ bits) c rest) ∙ sym (whole-cons b d (bits ++ c ∷ rest))

-- the digits so far, what is kept for higher ones, and what the rest of the factor asks for make the product
abbrev pub IsPartial : (Node → Bool) → List Node → List Node → ℕ → ℕ → List Node → Type 0
IsPartial value digits higher rest factor ys = above (map value digits) (whole (map value higher) +ℤ (pos rest *ℤ whole (map value ys))) ≡ pos factor *ℤ whole (map value ys)

-- digits that are all false
all-false : (value : Node → Bool) (n : Node) (k : ℕ) → value n ≡ false
    → map value (replicate k n) ≡ map (λ (m : Node). false) (replicate k n)
all-false value n zero e = refl
all-false value n (suc k) e = ap (λ b. b ∷ map value (replicate k n)) e ∙ ap (λ bs. false ∷ bs) (all-false value n k e)

pub partial-none : (value : Node → Bool) (digits higher ys : List Node) (n : Node) (k factor : ℕ) → value n ≡ false
    → digits ≡ [] → higher ≡ replicate k n → IsPartial value digits higher factor factor ys
partial-none value digits higher ys n k factor e none f =
    let z : whole (map value higher) ≡ pos 0 = ap (λ ns. whole (map value ns)) f ∙ ap whole (all-false value n k e) ∙ no-whole (replicate k n) in
    let p = pos factor *ℤ whole (map value ys) in
    ap (λ ns. above (map value ns) (whole (map value higher) +ℤ p)) none ∙ omega (arith, ints, z)

-- one more digit of the product
digit-next : (value : Node → Bool) (digits higher ys ds : List Node) (d c : Node) (next : List Node) (rest factor : ℕ)
    (b : Bool) → ds ≡ d ∷ c ∷ next → b ≡ nat_eq (rest % 2) 1
    → whole (map value ds) ≡ whole (map value higher) +ℤ (if b then whole (map value ys) else pos 0)
    → IsPartial value digits higher rest factor ys → IsPartial value (digits ++ d ∷ []) (c ∷ next) (rest / 2) factor ys
digit-next value digits higher ys ds d c next rest factor b is e f g =
    let a = whole (map value ys) in
    let split : whole (map value ds) ≡ pos (bit (value d)) +ℤ (whole (map value (c ∷ next)) +ℤ whole (map value (c ∷ next))) =
    ap (λ ns. whole (map value ns)) is ∙ whole-cons (value d) (value c) (map value next) in
    let parts = parts-next rest b (value d) a (whole (map value higher)) (whole (map value ds)) (whole (map value (c ∷ next))) e f split in
    let more = whole (map value (c ∷ next)) +ℤ (pos (rest / 2) *ℤ a) in
    ap (λ bs. above bs more) (map_push value digits d) ∙ above-push (map value digits) (value d) more ∙ ap (above (map value digits)) (sym parts) ∙ g

-- the first node and the others, where there are more than one
pub first-and-others : (ds : List Node) (e : Node) → 1 < length ds
    → (c : Node) × (next : List Node) × (ds ≡ get_or ds 0 e ∷ c ∷ next)
first-and-others [] e h = absurd (omega arith)
first-and-others (d ∷ []) e h = absurd (omega arith)
first-and-others (d ∷ c ∷ next) e h = (c, next, refl)

pub partial-next : (value : Node → Bool) (digits higher ys ds others : List Node) (e : Node) (rest factor : ℕ)
    (b : Bool) → 1 < length ds → others ≡ drop 1 ds → b ≡ nat_eq (rest % 2) 1
    → whole (map value ds) ≡ whole (map value higher) +ℤ (if b then whole (map value ys) else pos 0)
    → IsPartial value digits higher rest factor ys
    → IsPartial value (digits ++ get_or ds 0 e ∷ []) others (rest / 2) factor ys
partial-next value digits higher ys ds others e rest factor b size is bit-is sum g =
    let s = first-and-others ds e size in
    let o : others ≡ s.0 ∷ s.1 = is ∙ ap (drop 1) s.2 in
    subst (λ ns. IsPartial value (digits ++ get_or ds 0 e ∷ []) ns (rest / 2) factor ys) (sym o) (digit-next value digits higher ys ds (get_or ds 0 e) s.0 s.1 rest factor b s.2 bit-is sum g)

-- where nothing is left of the factor, the digits are the product's
pub partial-done : (value : Node → Bool) (digits higher ys all : List Node) (rest factor : ℕ) → 0 < length higher
    → rest < 1 → all ≡ digits ++ higher → IsPartial value digits higher rest factor ys
    → whole (map value all) ≡ pos factor *ℤ whole (map value ys)
partial-done value digits [] ys all rest factor some h e g = absurd (omega arith)
partial-done value digits (c ∷ next) ys all rest factor some h e g =
    let a = whole (map value ys) in
    let none : rest ≡ 0 = omega arith in
    let z = zero-*ℤ a in
    let gone : whole (map value (c ∷ next)) ≡ whole (map value (c ∷ next)) +ℤ (pos rest *ℤ a) = let t = ap (λ r. pos r *ℤ a) none in omega (arith, ints, z, t) in
    ap (λ ns. whole (map value ns)) e ∙ ap whole (map-append value digits (c ∷ next)) ∙ sym (above-whole (map value digits) (value c) (map value next)) ∙ ap (above (map value digits)) gone ∙ g

pub product-within : (factor m : ℕ) (x : ℤ) (most : ℕ) → most ≡ factor * m → unsigned_abs x ≤ m
    → unsigned_abs (pos factor *ℤ x) ≤ most
product-within factor m x most e within =
    let times = unsigned_abs-mul (pos factor) x in
    let least : factor * unsigned_abs x ≤ factor * m = mul-le factor (unsigned_abs x) factor m (omega arith) within in
    omega (arith, times, least, e)

-- as many digits as the bound asks for
pub product-value : (value : Node → Bool) (digits nodes : List Node) (width most factor m : ℕ) (x : ℤ)
    → 0 < length digits → most ≡ factor * m → most ≤ 2 ^ 88 → width ≡ width_of most → nodes ≡ resized_to digits width
    → unsigned_abs x ≤ m → whole (map value digits) ≡ pos factor *ℤ x → whole (map value nodes) ≡ pos factor *ℤ x
product-value value digits nodes width most factor m x some e small wide is within v =
    let p = digits_of most (omega arith) in
    let n = p.0 in
    let bound : unsigned_abs (pos factor *ℤ x) ≤ most = product-within factor m x most e within in
    let w : nodes ≡ resized_to digits (suc n) = is ∙ ap (resized_to digits) (wide ∙ p.1.width) in
    ap (λ ns. whole (map value ns)) w ∙ whole-resized value digits n some (subst (InRange (2 ^ n)) (sym v) (in-range most n _ p.1.below bound)) ∙ v

times-negative : (n : ℕ) (a : ℤ) → neg_ℤ (pos (suc n) *ℤ a) ≡ negsuc n *ℤ a
times-negative n a = ap neg_ℤ (*ℤ_comm (pos (suc n)) a) ∙ sym (*ℤ-negsuc a n) ∙ *ℤ_comm a (negsuc n)

-- the sign of the factor
pub times-below : (k a : ℤ) (m : ℕ) (z x : ℤ) → int_lt k (pos 0) ≡ true → m ≡ unsigned_abs k → x ≡ pos m *ℤ a
    → z ≡ neg_ℤ x → z ≡ k *ℤ a
times-below (pos n) a m z x t e f g = absurd (omega (arith, ltb-true n 0 t))
times-below (negsuc n) a m z x t e f g = g ∙ ap neg_ℤ (f ∙ ap (λ i. pos i *ℤ a) e) ∙ times-negative n a

-- the nodes of 32 turns at most
pub turns : (w i : ℕ) → i < 32 → 5 * w * i + 5 * w ≤ 160 * w
turns w i h = omega (arith, turn (5 * w) i 32 h)

-- nothing is left of the factor after as many turns as it has digits
pub last-rest : (rest i : ℕ) → rest < 2 ^ (32 - i) → 32 ≤ i → rest < 1
last-rest rest i h k = let none : 32 - i ≡ 0 = omega arith in omega (arith, ap (λ n. 2 ^ n) none)
