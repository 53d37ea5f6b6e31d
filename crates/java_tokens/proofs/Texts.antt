-- Bytes have one list of characters at their front, up to where no character begins.
use Rattle.std.proofs.Common.{◌≡◌, ℕ, ◌+◌, ◌<◌, true, List, [], ◌∷◌, ◌++◌, length, encode_utf8, encode_utf8_all, refl, sym, ap, ◌∙◌, arith, append_assoc, length-append}
use Rattle.std.specs.Str.{all_scalars, StartsWithNoChar}
use Rattle.std.proofs.lemmas.Bool.{and_parts}
use Rattle.std.proofs.lemmas.List.{append-nil}
use Rattle.std.proofs.lemmas.Str.{encode_same, encodes-append, length-encode, len_utf8_bounds, length-le-encodes}
use Rattle.java_tokens.specs.Places.{offset}
use Rattle.java_tokens.specs.Faults.{HasText}

some-encode : (c : ℕ) → 0 < length (encode_utf8 c)
some-encode c = omega (arith, length-encode c, (len_utf8_bounds c).0)

-- no character begins nothing
pub stuck-nil : StartsWithNoChar []
stuck-nil c rest scalar is = omega (arith, ap length is, length-append (encode_utf8 c) rest, some-encode c)

one_front : (cs ds left others : List ℕ) → all_scalars cs ≡ true → all_scalars ds ≡ true → StartsWithNoChar left → StartsWithNoChar others → encode_utf8_all cs ++ left ≡ encode_utf8_all ds ++ others → (cs ≡ ds) × (left ≡ others)
one_front [] [] left others scalars scalars' stuck stuck' same = (refl, same)
one_front [] (d ∷ ds) left others scalars scalars' stuck stuck' same =
    absurd (stuck d (encode_utf8_all ds ++ others) (and_parts _ _ scalars').0 (same ∙ append_assoc (encode_utf8 d) (encode_utf8_all ds) others))
one_front (c ∷ cs) [] left others scalars scalars' stuck stuck' same =
    absurd (stuck' c (encode_utf8_all cs ++ left) (and_parts _ _ scalars).0 (sym same ∙ append_assoc (encode_utf8 c) (encode_utf8_all cs) left))
one_front (c ∷ cs) (d ∷ ds) left others scalars scalars' stuck stuck' same =
    let behind = encode_same c d (encode_utf8_all cs ++ left) (encode_utf8_all ds ++ others) (sym (append_assoc (encode_utf8 c) (encode_utf8_all cs) left) ∙ same ∙ append_assoc (encode_utf8 d) (encode_utf8_all ds) others) in
    let more = one_front cs ds left others (and_parts _ _ scalars).1 (and_parts _ _ scalars').1 stuck stuck' behind.1 in
    ((λ i. behind.0 i ∷ more.0 i), more.1)

pub one_text : (bytes cs ds left others : List ℕ) → HasText bytes cs left → HasText bytes ds others → (cs ≡ ds) × (left ≡ others)
one_text bytes cs ds left others text text' = one_front cs ds left others text.scalars text'.scalars text.stuck text'.stuck (sym text.split ∙ text'.split)

-- bytes that are UTF-8 as a whole
pub whole_text : (bytes cs : List ℕ) → all_scalars cs ≡ true → bytes ≡ encode_utf8_all cs → HasText bytes cs []
whole_text bytes cs scalars encoded = record { scalars = scalars; split = encoded ∙ sym (append-nil (encode_utf8_all cs)); stuck = stuck-nil }

-- how many bytes characters take
pub offset-append : (xs ys : List ℕ) → offset (xs ++ ys) ≡ offset xs + offset ys
offset-append xs ys = ap length (encodes-append xs ys) ∙ length-append (encode_utf8_all xs) (encode_utf8_all ys)

pub offset-some : (xs : List ℕ) → 0 < length xs → 0 < offset xs
offset-some xs some = omega (arith, length-le-encodes xs)
