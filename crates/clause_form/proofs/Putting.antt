-- Texts that are put one after the other.
use Rattle.std.proofs.Common.{◌≡◌, ℕ, suc, ◌+◌, ◌<◌, List, [], ◌∷◌, ◌++◌, length, take, drop, flat_map, get_or, Ok, Err, sym, ◌∙◌, ap, append_assoc, append-nil, add-one}
use Rattle.std.proofs.Math.Seq.{take-suc}
use Rattle.std.proofs.lemmas.List.{take-append-drop}
use Rattle.std.proofs.lemmas.Grind.{flat_map-append}
use Rattle.pb_io.specs.declared.sink.PutError.{PutError}
use Rattle.pb_io.specs.Sink.{SinkState, Puts}
use Rattle.pb_io.proofs.Puts.{Puts-append, Puts-stop}

module _ {X : Type 0} (text : X → List ℕ) (xs : List X) (i : ℕ) (d : X) (lt : i < length xs) where
  texts-take : flat_map text (take (suc i) xs) ≡ flat_map text (take i xs) ++ text (get_or xs i d)
  texts-take =
      ap (flat_map text) (take-suc xs i d lt)
      ∙ flat_map-append text (take i xs) (get_or xs i d ∷ [])
      ∙ ap (λ bytes. flat_map text (take i xs) ++ bytes) (append-nil (text (get_or xs i d)))

  texts-split : flat_map text xs ≡ flat_map text (take (suc i) xs) ++ flat_map text (drop (suc i) xs)
  texts-split = ap (flat_map text) (sym (take-append-drop (suc i) xs)) ∙ flat_map-append text (take (suc i) xs) (drop (suc i) xs)

  -- the texts so far were put, and then one more
  pub text-put : {T : Type 0} (a b c : SinkState) (value : T) → Puts a b (flat_map text (take i xs)) {T = T} (Ok value) → Puts b c (text (get_or xs i d)) {T = T} (Ok value) → Puts a c (flat_map text (take (i + 1) xs)) {T = T} (Ok value)
  text-put a b c value before one =
      rw (add-one, texts-take) (Puts-append a b c (flat_map text (take i xs)) (text (get_or xs i d)) value (Ok value) before one)

  -- the texts so far were put, and the next one ended by an error
  pub text-stopped : {T : Type 0} (a b c : SinkState) (value : T) (error : PutError) → Puts a b (flat_map text (take i xs)) {T = T} (Ok value) → Puts b c (text (get_or xs i d)) {T = T} (Err error) → Puts a c (flat_map text xs) {T = T} (Err error)
  text-stopped a b c value error before one =
      rw (texts-split, texts-take)
      (Puts-stop a c (flat_map text (take i xs) ++ text (get_or xs i d)) (flat_map text (drop (suc i) xs)) error
      (Puts-append a b c (flat_map text (take i xs)) (text (get_or xs i d)) value (Err error) before one))

-- the numbers of the first line, a space between them, and a line feed
pub header-text : (variables count : List ℕ) → ((variables ++ 32 ∷ []) ++ count) ++ 10 ∷ [] ≡ variables ++ 32 ∷ (count ++ 10 ∷ [])
header-text variables count = append_assoc (variables ++ 32 ∷ []) count (10 ∷ []) ∙ append_assoc variables (32 ∷ []) (count ++ 10 ∷ [])
