-- The characters of a text in UTF-8, one after the other.
use Rattle.std.proofs.Common.{◌≡◌, ◌∙◌, ℕ, ◌<◌, ◌+◌, List, [], ◌∷◌, ◌++◌, length, take, get_or, ap, sym}
use Rattle.std.specs.Prelude.{encode_utf8, encode_utf8_all}
use Rattle.std.proofs.lemmas.List.{take_more, append-nil, append_assoc}
use Rattle.std.proofs.lemmas.Str.{encodes-append}

-- a further character
pub encoded_further : (bytes before cs : List ℕ) (i c : ℕ) → i < length cs → c ≡ get_or cs i c → bytes ≡ before ++ encode_utf8_all (take i cs) →
    bytes ++ encode_utf8 c ≡ before ++ encode_utf8_all (take (i + 1) cs)
encoded_further bytes before cs i c within is so_far =
    let next : encode_utf8_all (take (i + 1) cs) ≡ encode_utf8_all (take i cs) ++ encode_utf8 c =
    ap encode_utf8_all (take_more cs i c within) ∙ (encodes-append (take i cs) (get_or cs i c ∷ [])
    ∙ ap (λ end. encode_utf8_all (take i cs) ++ end) (append-nil (encode_utf8 (get_or cs i c)) ∙ ap encode_utf8 (sym is))) in
    rw (so_far, next) (append_assoc before (encode_utf8_all (take i cs)) (encode_utf8 c))
