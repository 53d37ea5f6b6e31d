-- A text that is put part by part.
use Rattle.std.proofs.Common.{◌≡◌, ℕ, suc, ◌+◌, ◌<◌, List, [], ◌∷◌, ◌++◌, length, take, drop, flat_map, get_or, Bor, Ok, Err, sym, ◌∙◌, ap, append_assoc, append-nil, add-one, codes}
use Rattle.std.proofs.Math.Seq.{take-suc}
use Rattle.std.proofs.lemmas.List.{take-append-drop}
use Rattle.std.proofs.lemmas.Grind.{flat_map-append}
use Rattle.pb_io.specs.declared.sink.PutError.{PutError}
use Rattle.pb_io.specs.Sink.{SinkState, Puts}
use Rattle.pb_io.proofs.Puts.{Puts-append, Puts-stop}

-- the texts of parts, joined
abbrev pub joined : List (Bor (List ℕ)) → List ℕ
joined parts = flat_map (λ part. part.now) parts

-- one more part
joined-take : (parts : List (Bor (List ℕ))) (i : ℕ) (d : Bor (List ℕ)) → i < length parts
    → joined (take (suc i) parts) ≡ joined (take i parts) ++ (get_or parts i d).now
joined-take parts i d lt =
    let part = get_or parts i d in
    ap joined (take-suc parts i d lt)
    ∙ flat_map-append (λ (p : Bor (List ℕ)). p.now) (take i parts) (part ∷ [])
    ∙ ap (λ bytes. joined (take i parts) ++ bytes) (append-nil part.now)

-- the parts up to one, and those after it
joined-split : (parts : List (Bor (List ℕ))) (i : ℕ) → joined parts ≡ joined (take i parts) ++ joined (drop i parts)
joined-split parts i = ap joined (sym (take-append-drop i parts)) ∙ flat_map-append (λ (p : Bor (List ℕ)). p.now) (take i parts) (drop i parts)

-- the parts so far were put, and then one more
pub part-put : {T : Type 0} (a b c : SinkState) (parts : List (Bor (List ℕ))) (i : ℕ) (d : Bor (List ℕ)) (value : T)
    → i < length parts → Puts a b (joined (take i parts)) {T = T} (Ok value)
    → Puts b c (get_or parts i d).now {T = T} (Ok value) → Puts a c (joined (take (i + 1) parts)) {T = T} (Ok value)
part-put a b c parts i d value lt before one =
    rw (add-one, joined-take parts i d lt) (Puts-append a b c (joined (take i parts)) (get_or parts i d).now value (Ok value) before one)

-- the parts so far were put, and the next one ended by an error
pub part-stopped : {T : Type 0} (a b c : SinkState) (parts : List (Bor (List ℕ))) (i : ℕ) (d : Bor (List ℕ))
    (value : T) (error : PutError)
    → i < length parts → Puts a b (joined (take i parts)) {T = T} (Ok value)
    → Puts b c (get_or parts i d).now {T = T} (Err error) → Puts a c (joined parts) {T = T} (Err error)
part-stopped a b c parts i d value error lt before one =
    rw (joined-split parts (suc i), joined-take parts i d lt)
    (Puts-stop a c (joined (take i parts) ++ (get_or parts i d).now) (joined (drop (suc i) parts)) error
    (Puts-append a b c (joined (take i parts)) (get_or parts i d).now value (Err error) before one))

-- a fault: its kind, and the byte with a line feed
pub fault-text-parts : (kind at : List ℕ)
    → ((kind ++ codes " at byte ") ++ at) ++ 10 ∷ [] ≡ kind ++ (codes " at byte " ++ (at ++ 10 ∷ []))
fault-text-parts kind at = append_assoc (kind ++ codes " at byte ") at (10 ∷ []) ∙ append_assoc kind (codes " at byte ") (at ++ 10 ∷ [])

-- a place: its line, a colon, its column, and a line feed
pub place-text : (line column : List ℕ) → ((line ++ 58 ∷ []) ++ column) ++ 10 ∷ [] ≡ line ++ 58 ∷ (column ++ 10 ∷ [])
place-text line column = append_assoc (line ++ 58 ∷ []) column (10 ∷ []) ∙ append_assoc line (58 ∷ []) (column ++ 10 ∷ [])

-- a rule and a place: its number, the place, and a line feed
pub rule-text : (rule line column : List ℕ)
    → ((rule ++ codes " at ") ++ ((line ++ 58 ∷ []) ++ column)) ++ 10 ∷ [] ≡ rule ++
    (codes " at " ++ (line ++ 58 ∷ (column ++ 10 ∷ [])))
rule-text rule line column =
    append_assoc (rule ++ codes " at ") ((line ++ 58 ∷ []) ++ column) (10 ∷ [])
    ∙ append_assoc rule (codes " at ") (((line ++ 58 ∷ []) ++ column) ++ 10 ∷ [])
    ∙ ap (λ rest. rule ++ (codes " at " ++ rest)) (place-text line column)
