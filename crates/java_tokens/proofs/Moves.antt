-- The place of what stands one character further.
use Rattle.std.proofs.Common.{◌≡◌, ℕ, ◌+◌, ◌-◌, ◌<◌, ◌≤◌, Bool, true, false, ◌==◌, List, [], ◌∷◌, ◌++◌, length, take, drop, get_or, reverse, encode_utf8, if◌then◌else◌, sym, refl, ap, ◌∙◌, subst, arith}
use Rattle.std.specs.List.{prefix_len}
use Rattle.std.proofs.lemmas.List.{append-nil, take_more, take-append-drop, reverse-append, length-reverse}
use Rattle.std.proofs.lemmas.List.Sums.{prefix_len-le-length}
use Rattle.std.proofs.lemmas.Grind.{get_or_default_zero}
use Rattle.std.proofs.lemmas.Str.{length-le-encodes}
use Rattle.java_tokens.specs.declared.place.Place.{Place}
use Rattle.java_tokens.specs.Characters.{is_line_end, is_in_line}
use Rattle.java_tokens.specs.Places.{offset, ends_line, lines_ended, column}
use Rattle.java_tokens.specs.Reading.{IsPlace}
use Rattle.java_tokens.proofs.Texts.{offset-append}

-- the last character, or the one in front
abbrev pub last_or : ℕ → List ℕ → ℕ
last_or before [] = before
last_or before (c ∷ cs) = last_or c cs

last-push : (before : ℕ) (cs : List ℕ) (c : ℕ) → last_or before (cs ++ c ∷ []) ≡ c
last-push before [] c = refl
last-push before (d ∷ cs) c = last-push d cs c

abbrev one_if : Bool → ℕ
one_if b = if b then 1 else 0

lines-push : (before : ℕ) (cs : List ℕ) (c : ℕ) → lines_ended before (cs ++ c ∷ []) ≡ lines_ended before cs + one_if (ends_line (last_or before cs == 13) c)
lines-push before [] c = omega arith
lines-push before (d ∷ cs) c = omega (arith, lines-push d cs c)

column-push : (cs : List ℕ) (c : ℕ) → column (cs ++ c ∷ []) ≡ (if is_line_end c then 1 else column cs + 1)
column-push cs c = ap (λ r. 1 + prefix_len is_in_line r) (reverse-append cs (c ∷ [])) ∙ by_test (is_line_end c) refl where
  by_test : (b : Bool) → is_line_end c ≡ b → 1 + prefix_len is_in_line (c ∷ reverse cs) ≡ (if is_line_end c then 1 else column cs + 1)
  by_test true is = rw is refl
  by_test false is = rw is (omega arith)

offset-push : (cs : List ℕ) (c : ℕ) → offset (cs ++ c ∷ []) ≡ offset cs + length (encode_utf8 c)
offset-push cs c = offset-append cs (c ∷ []) ∙ ap (λ b. offset cs + length b) (append-nil (encode_utf8 c))

-- how large the three numbers are
lines-few : (before : ℕ) (cs : List ℕ) → lines_ended before cs ≤ length cs
lines-few before [] = omega arith
lines-few before (c ∷ cs) = by_test (ends_line (before == 13) c) refl (lines-few c cs) where
  by_test : (b : Bool) → ends_line (before == 13) c ≡ b → lines_ended c cs ≤ length cs → lines_ended before (c ∷ cs) ≤ length (c ∷ cs)
  by_test true is few = rw is (omega arith)
  by_test false is few = rw is (omega arith)

pub offset-take : (n : ℕ) (xs : List ℕ) → offset (take n xs) ≤ offset xs
offset-take n xs = omega (arith, offset-append (take n xs) (drop n xs), ap offset (take-append-drop n xs))

pub record IsSmall (place : Place) (most : ℕ) : Type 0 where
  pub offset_below : place.offset ≤ most
  pub line_below : place.line ≤ most + 1
  pub column_below : place.column ≤ most + 1

pub place-small : (xs : List ℕ) (n : ℕ) (place : Place) → IsPlace (take n xs) place → IsSmall place (offset xs)
place-small xs n place is =
    let front = take n xs in
    let few = length-le-encodes front in
    let most = offset-take n xs in
    record {
      offset_below = omega (arith, is.offset_is, most);
      line_below = omega (arith, is.line_is, lines-few 0 front, few, most);
      column_below = omega (arith, is.column_is, prefix_len-le-length is_in_line (reverse front), length-reverse front, few, most);
    }

-- whether the character in front of a place is a carriage return
pub last-at : (xs : List ℕ) (at : ℕ) → 0 < at → at ≤ length xs → last_or 0 (take at xs) ≡ get_or xs (at - 1) 0
last-at xs at some within =
    let one : at ≡ at - 1 + 1 = omega arith in
    ap (λ n. last_or 0 (take n xs)) one ∙ ap (last_or 0) (take_more xs (at - 1) 0 (omega arith)) ∙ last-push 0 (take (at - 1) xs) (get_or xs (at - 1) 0)

pub moved_one : (xs : List ℕ) (at : ℕ) (place next : Place) (c : ℕ) (returned : Bool) → at < length xs → IsPlace (take at xs) place → get_or xs at 0 ≡ c → (last_or 0 (take at xs) == 13) ≡ returned → next.offset ≡ place.offset + length (encode_utf8 c) → next.line ≡ place.line + (if ends_line returned c then 1 else 0) → next.column ≡ (if is_line_end c then 1 else place.column + 1) → IsPlace (take (at + 1) xs) next
moved_one xs at place next c returned below is char_is returned_is offset_is line_is column_is =
    let front = take at xs in
    let more : take (at + 1) xs ≡ front ++ c ∷ [] = take_more xs at 0 below ∙ ap (λ d. front ++ d ∷ []) char_is in
    subst (λ t. IsPlace t next) (sym more) (record {
      offset_is = omega (arith, offset_is, is.offset_is, offset-push front c);
      line_is = omega (arith, line_is, is.line_is, lines-push 0 front c, ap (λ b. one_if (ends_line b c)) returned_is);
      column_is = column_is ∙ ap (λ n. if is_line_end c then 1 else n + 1) is.column_is ∙ sym (column-push front c);
    })

-- whether the character in front is a carriage return, as the code tests it
pub returned_at : (xs : List ℕ) (at c : ℕ) (returned : Bool) → 0 < at → at ≤ length xs → c ≡ get_or xs (at - 1) c → returned ≡ (c == 13) → (last_or 0 (take at xs) == 13) ≡ returned
returned_at xs at c returned some within is test =
    ap (λ d. d == 13) (last-at xs at some within ∙ sym (get_or_default_zero xs (at - 1) c (omega arith)) ∙ sym is) ∙ sym test

pub returned_start : (xs : List ℕ) (at : ℕ) (returned : Bool) → at ≤ 0 → returned ≡ false → (last_or 0 (take at xs) == 13) ≡ returned
returned_start xs at returned start is =
    let zero : at ≡ 0 = omega arith in ap (λ n. last_or 0 (take n xs) == 13) zero ∙ sym is
