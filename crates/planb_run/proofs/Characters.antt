-- Texts that are put character by character, and in three parts.
use Rattle.std.proofs.Common.{◌≡◌, ◌∙◌, ℕ, suc, ◌<◌, ◌+◌, List, [], ◌∷◌, ◌++◌, length, take, drop, get_or, Ok, Err, ap, sym, append-nil, add-one}
use Rattle.std.specs.Prelude.{encode_utf8, encode_utf8_all}
use Rattle.std.proofs.Math.Seq.{take-suc}
use Rattle.std.proofs.lemmas.Grind.{flat_map-append}
use Rattle.std.proofs.lemmas.List.{take-append-drop}
use Rattle.std.proofs.lemmas.Str.{encodes-append}
use Rattle.pb_io.specs.declared.sink.PutError.{PutError}
use Rattle.pb_io.specs.Sink.{SinkState, Puts}
use Rattle.pb_io.proofs.Puts.{Puts-append, Puts-stop}
use Rattle.planb_run.specs.Report.{escape, escaped}

-- a character alone
pub one_character : (c : ℕ) → encode_utf8_all (c ∷ []) ≡ encode_utf8 c
one_character c = append-nil (encode_utf8 c)

-- a character of a message alone
pub one_escaped : (c : ℕ) → escaped (c ∷ []) ≡ escape c
one_escaped c = append-nil (escape c)

-- the text of a message, part by part
pub escaped-append : (a b : List ℕ)
    → encode_utf8_all (escaped (a ++ b)) ≡ encode_utf8_all (escaped a) ++ encode_utf8_all (escaped b)
escaped-append a b = ap encode_utf8_all (flat_map-append escape a b) ∙ encodes-append (escaped a) (escaped b)

-- ---- a text whose parts are joined

module _ (text : List ℕ → List ℕ) (joins : (a b : List ℕ) → text (a ++ b) ≡ text a ++ text b) where
  text-take : (cs : List ℕ) (i x : ℕ) → i < length cs → x ≡ get_or cs i x
      → text (take (suc i) cs) ≡ text (take i cs) ++ text (x ∷ [])
  text-take cs i x lt is =
      ap text (take-suc cs i x lt) ∙ joins (take i cs) (get_or cs i x ∷ []) ∙ ap (λ c. text (take i cs) ++ text (c ∷ [])) (sym is)

  text-split : (cs : List ℕ) (i : ℕ) → text cs ≡ text (take i cs) ++ text (drop i cs)
  text-split cs i = ap text (sym (take-append-drop i cs)) ∙ joins (take i cs) (drop i cs)

  -- the characters so far were put, and then one more
  pub text-put : {T : Type 0} (a b c : SinkState) (cs : List ℕ) (i x : ℕ) (value : T) → i < length cs
      → x ≡ get_or cs i x
      → Puts a b (text (take i cs)) {T = T} (Ok value) → Puts b c (text (x ∷ [])) {T = T} (Ok value) → Puts a c (text (take (i + 1) cs)) {T = T} (Ok value)
  text-put a b c cs i x value lt is before one =
      rw (add-one, text-take cs i x lt is) (Puts-append a b c (text (take i cs)) (text (x ∷ [])) value (Ok value) before one)

  -- the characters so far were put, and the next one ended by an error
  pub text-stopped : {T : Type 0} (a b c : SinkState) (cs : List ℕ) (i x : ℕ) (value : T) (error : PutError)
      → i < length cs → x ≡ get_or cs i x
      → Puts a b (text (take i cs)) {T = T} (Ok value) → Puts b c (text (x ∷ [])) {T = T} (Err error) → Puts a c (text cs) {T = T} (Err error)
  text-stopped a b c cs i x value error lt is before one =
      rw (text-split cs (suc i), text-take cs i x lt is)
      (Puts-stop a c (text (take i cs) ++ text (x ∷ [])) (text (drop (suc i) cs)) error
      (Puts-append a b c (text (take i cs)) (text (x ∷ [])) value (Err error) before one))

-- ---- three parts

-- the second ended by an error
pub second_stopped : {T : Type 0} (a b c : SinkState) (x y z : List ℕ) (value : T) (error : PutError)
    → Puts a b x {T = T} (Ok value) → Puts b c y {T = T} (Err error) → Puts a c (x ++ (y ++ z)) {T = T} (Err error)
second_stopped a b c x y z value error first second = Puts-append a b c x (y ++ z) value (Err error) first (Puts-stop b c y z error second)
