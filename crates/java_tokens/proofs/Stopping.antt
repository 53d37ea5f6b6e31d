-- How the reader stops: its answers on characters are those on bytes.
use Rattle.std.proofs.Common.{◌≡◌, ◌⊎◌, inl, inr, ℕ, ◌+◌, ◌-◌, ◌<◌, ◌≤◌, Bool, true, false, List, [], ◌∷◌, ◌++◌, length, take, drop, IsUtf8, chars, encode_utf8, encode_utf8_all, sym, refl, ap, ◌∙◌, subst, arith, length-append, length-drop}
use Rattle.std.specs.List.{between}
use Rattle.std.specs.Str.{StartsWithNoChar, IsValidUpTo, all_scalars}
use Rattle.std.proofs.lemmas.List.{append-nil, take-append-drop, length-take-le, take_all, take-take}
use Rattle.std.proofs.Math.Seq.{take-add, take-append_seam}
use Rattle.std.proofs.lemmas.Str.{IsUtf8-append, IsUtf8-encode, length-encode, len_utf8_bounds, scalars-chars, encodes-chars}
use Rattle.java_tokens.specs.declared.lexeme.Lexeme.TheVariants as lexeme
use Rattle.java_tokens.specs.declared.lexeme.Flaw.{Flaw}
use Rattle.java_tokens.specs.declared.lexeme.Flaw.TheVariants as flaw
use Rattle.java_tokens.specs.declared.place.Place.{Place}
use Rattle.java_tokens.specs.declared.token.Token.{Token}
use Rattle.java_tokens.specs.declared.error.TokenError.{TokenError}
use Rattle.java_tokens.specs.declared.error.TokenError.TheVariants.{BadUtf8, BadChar, BadNumber, Unclosed, OutOfMemory}
use Rattle.java_tokens.specs.Characters.{is_line_end, first_passes}
use Rattle.java_tokens.specs.Lexemes.{HasFlaw, IsLexeme, IsLongest}
use Rattle.java_tokens.specs.Places.{offset}
use Rattle.java_tokens.specs.Tokens.{ArePieces, AreTokens}
use Rattle.java_tokens.specs.Faults.{HasText, text_of, before_escape, error_of, met_at, IsOver, MeetsFlaw, MeetsBadByte, Meets, IsFirstFault, HasFault}
use Rattle.java_tokens.specs.Reading.{IsScanned, IsPlace, IsOpen, IsFaultOf, HasTokens, StopsInFlaw, StopsInBadByte, StopsAt}
use Rattle.java_tokens.proofs.Begins.{some}
use Rattle.java_tokens.proofs.Texts.{one_text}
use Rattle.java_tokens.proofs.Longest.{longest-nil}
use Rattle.java_tokens.proofs.Pieces.{IsFront, one_front, stops-nil, stops-flaw, one_pieces}
use Rattle.java_tokens.proofs.OneReading.{one_flaw, flaw_before_bad_byte, flaw_front, flaw_same, no_left}
use Rattle.java_tokens.proofs.Overs.{open_string-over, open_comment-over}
use Rattle.java_tokens.proofs.Readings.{HasRead, scanned-within, scanned-is, scanned-longest, scanned-split}

-- ---- the front of the bytes that is UTF-8

pub stuck-valid : (bytes : List ℕ) (n : ℕ) → IsValidUpTo bytes n → StartsWithNoChar (drop n bytes)
stuck-valid bytes n valid c rest scalar is =
    let more = length (encode_utf8 c) in
    let front : take more (drop n bytes) ≡ encode_utf8 c = ap (take more) is ∙ take-append_seam (encode_utf8 c) rest in
    let longer : take (n + more) bytes ≡ take n bytes ++ encode_utf8 c = take-add n more bytes ∙ ap (λ b. take n bytes ++ b) front in
    valid.longest (n + more) (omega (arith, length-encode c, (len_utf8_bounds c).0))
    (subst IsUtf8 (sym longer) (IsUtf8-append (take n bytes) (encode_utf8 c) valid.front (IsUtf8-encode c scalar)))

pub has_text : (bytes text cs : List ℕ) → text ≡ take (length text) bytes → StartsWithNoChar (drop (length text) bytes) → IsUtf8 text → cs ≡ chars text → HasText bytes cs (drop (length text) bytes)
has_text bytes text cs front stuck utf8 are = record {
  scalars = ap all_scalars are ∙ scalars-chars text utf8;
  split = sym (take-append-drop (length text) bytes) ∙ ap (λ b. b ++ drop (length text) bytes) (sym front ∙ sym (ap encode_utf8_all are ∙ encodes-chars text utf8));
  stuck = stuck;
}

-- ---- a malformed text

pub escape-named : (xs : List ℕ) (from to : ℕ) (place : Place) → from ≤ to → to ≤ length xs → HasFlaw flaw.Escape (take (to - from) (drop from xs)) → IsPlace (take (to - 2) xs) place → BadChar place.offset ≡ error_of flaw.Escape (take from xs) (take (to - from) (drop from xs))
escape-named xs from to place order within bad here =
    let text = take (to - from) (drop from xs) in
    let size : length text ≡ to - from = length-take-le (to - from) (drop from xs) (omega (arith, length-drop from xs)) in
    let long : 3 ≤ length text = omega (arith, ap length bad.is, length-append bad.body (92 ∷ bad.letter ∷ [])) in
    let m = length text - 2 in
    let end : to - 2 ≡ from + m = omega arith in
    let front : take m text ≡ take m (drop from xs) = take-take m (to - from) (drop from xs) (omega arith) in
    let whole : take (to - 2) xs ≡ take from xs ++ before_escape text =
    ap (λ j. take j xs) end ∙ take-add from m xs ∙ ap (λ t. take from xs ++ t) (sym front) in
    ap BadChar (here.offset_is ∙ ap offset whole)

is_over : (f : Flaw) (text rest left : List ℕ) → HasFlaw f text → IsLongest text rest → (IsOpen f → rest ≡ [] → left ≡ []) → IsOver f rest left
is_over flaw.Character text rest left flawed longest none = tt
is_over flaw.Number text rest left flawed longest none = tt
is_over flaw.Escape text rest left flawed longest none = tt
is_over flaw.OpenString text rest left flawed longest none = by_end (open_string-over text rest flawed longest) where
  by_end : (rest ≡ []) ⊎ (first_passes is_line_end rest ≡ true) → (first_passes is_line_end rest ≡ true) ⊎ ((rest ≡ []) × (left ≡ []))
  by_end (inl end) = inr (end, none tt end)
  by_end (inr line) = inl line
is_over flaw.OpenComment text rest left flawed longest none = let end = open_comment-over text rest flawed longest in (end, none tt end)

stops_in : (xs : List ℕ) (whole : Bool) (error : TokenError) → StopsInFlaw xs whole error ⊎ StopsInBadByte xs whole error → StopsAt xs whole error
stops_in xs whole (BadUtf8 at) stops = stops
stops_in xs whole (BadChar at) stops = stops
stops_in xs whole (BadNumber at) stops = stops
stops_in xs whole (Unclosed at) stops = stops
stops_in xs whole OutOfMemory stops = tt

pub stopped : (xs : List ℕ) (tokens : List Token) (at n : ℕ) (f : Flaw) (whole : Bool) (error : TokenError) → HasRead xs tokens at → IsScanned (between at (length xs) xs) (lexeme.Malformed f) n → IsFaultOf f xs whole at (at + n) error → StopsAt xs whole error
stopped xs tokens at n f whole error read found fault = stops_in xs whole error (by_fault fault) where
  text : List ℕ
  text = take n (drop at xs)

  rest : List ℕ
  rest = drop (at + n) xs

  longest : IsLongest (take n (drop at xs)) (drop (at + n) xs)
  longest = scanned-longest xs at n (lexeme.Malformed f) read.within found

  within : at + n ≤ length xs
  within = scanned-within xs at n (lexeme.Malformed f) read.within found

  size : at + n - at ≡ n
  size = omega arith

  at_end : drop (at + n) xs ≡ [] → at + n ≡ length xs
  at_end none = omega (arith, within, ap length none, length-drop (at + n) xs)

  by_fault : IsFaultOf f xs whole at (at + n) error → StopsInFlaw xs whole error ⊎ StopsInBadByte xs whole error
  by_fault (inl flawed) =
      inl (record {
        front = read.pieces;
        flaw = f;
        text = take n (drop at xs);
        rest = drop (at + n) xs;
        reached = subst (λ ys. ArePieces read.pieces xs ys) (scanned-split xs at n (lexeme.Malformed f) read.within found) read.reached;
        is = scanned-is xs at n (lexeme.Malformed f) read.within found;
        longest = longest;
        over = λ left none. is_over f (take n (drop at xs)) (drop (at + n) xs) left (scanned-is xs at n (lexeme.Malformed f) read.within found) longest (λ open_flaw end. none (flawed.over open_flaw (at_end end)));
        named = flawed.named ∙ (λ i. error_of f (sym read.front i) (take (size i) (drop at xs)));
      })
  by_fault (inr cut) =
      let all : take n (drop at xs) ≡ drop at xs = take_all n (drop at xs) (omega (arith, cut.end, length-drop at xs)) in
      inr (record {
        front = read.pieces;
        rest = drop at xs;
        reached = read.reached;
        is_open = inr (f, cut.is_open, subst (IsLexeme (lexeme.Malformed f)) all (scanned-is xs at n (lexeme.Malformed f) read.within found));
        more = cut.more;
        named = cut.named;
      })

-- ---- from characters to bytes

pub are_tokens : (bytes cs left : List ℕ) (whole : Bool) (tokens : List Token) → HasText bytes cs left → (whole ≡ true → left ≡ []) → HasTokens cs whole tokens → AreTokens bytes tokens
are_tokens bytes cs left whole tokens text none has = record {
  characters = cs;
  scalars = text.scalars;
  encoded = text.split ∙ ap (λ b. encode_utf8_all cs ++ b) (none has.all) ∙ append-nil (encode_utf8_all cs);
  pieces = has.pieces;
  reached = has.reached;
  all = has.are;
}

-- a malformed text that is met is that at which the reader stopped, or none
no_flaw_open : (f : Flaw) (rest left : List ℕ) → IsOpen f → rest ≡ [] → 0 < length left → IsOver f rest left → ⊥
no_flaw_open flaw.Character rest left open_flaw end some over = open_flaw
no_flaw_open flaw.Number rest left open_flaw end some over = open_flaw
no_flaw_open flaw.Escape rest left open_flaw end some over = open_flaw
no_flaw_open flaw.OpenString rest left open_flaw end some (inl line) = let none = ap (first_passes is_line_end) end in absurd (cc)
no_flaw_open flaw.OpenString rest left open_flaw end some (inr over) = no_left left over.1 some
no_flaw_open flaw.OpenComment rest left open_flaw end some over = no_left left over.1 some

no_flaw : (bytes cs left : List ℕ) (whole : Bool) (error other : TokenError) (place : ℕ) → HasText bytes cs left → 0 < length left → StopsInBadByte cs whole error → MeetsFlaw bytes other place → ⊥
no_flaw bytes cs left whole error other place text some_left stops met = by_open stops.is_open where
  one : (met.characters ≡ cs) × (met.left ≡ left)
  one = one_text bytes met.characters cs met.left left met.read text

  reached : ArePieces met.front cs (met.text ++ met.rest)
  reached = subst (λ ds. ArePieces met.front ds (met.text ++ met.rest)) one.0 met.reached

  some_met : 0 < length met.left
  some_met = omega (arith, ap length one.1, some_left)

  by_open : (stops.rest ≡ []) ⊎ ((f : Flaw) × IsOpen f × IsLexeme (lexeme.Malformed f) stops.rest) → ⊥
  by_open (inl end) =
      let same = (one_pieces stops.front met.front cs [] (met.text ++ met.rest) (subst (λ r. ArePieces stops.front cs r) end stops.reached) reached stops-nil (stops-flaw met.flaw _ met.text met.rest (flaw_front met))).1 in
      omega (arith, ap length same, length-append met.text met.rest, some (lexeme.Malformed met.flaw) met.text met.is)
  by_open (inr unclosed) =
      let here : IsFront stops.rest (lexeme.Malformed unclosed.0) stops.rest [] = record { split = sym (append-nil stops.rest); is = unclosed.2; longest = longest-nil stops.rest } in
      let same = (one_pieces stops.front met.front cs stops.rest (met.text ++ met.rest) stops.reached reached (stops-flaw unclosed.0 stops.rest stops.rest [] here) (stops-flaw met.flaw _ met.text met.rest (flaw_front met))).1 in
      let one = one_front here (subst (λ r. IsFront r (lexeme.Malformed met.flaw) met.text met.rest) (sym same) (flaw_front met)) in
      no_flaw_open met.flaw met.rest met.left (subst IsOpen (flaw_same unclosed.0 met.flaw one.lexeme_is) unclosed.1) (sym one.rest_is) some_met met.over

first_flaw : (bytes cs left : List ℕ) (whole : Bool) (error : TokenError) → HasText bytes cs left → (whole ≡ true → left ≡ []) → StopsInFlaw cs whole error → IsFirstFault bytes error
first_flaw bytes cs left whole error text none stops = record { place = place; meets = inl met; least = least } where
  place : ℕ
  place = met_at stops.flaw (text_of stops.front) stops.text

  met : MeetsFlaw bytes error (met_at stops.flaw (text_of stops.front) stops.text)
  met = record {
    characters = cs;
    left = left;
    read = text;
    front = stops.front;
    flaw = stops.flaw;
    text = stops.text;
    rest = stops.rest;
    reached = stops.reached;
    is = stops.is;
    longest = stops.longest;
    over = stops.over left none;
    named = stops.named;
    met = refl;
  }

  least : (other : TokenError) (later : ℕ) → Meets bytes other later → met_at stops.flaw (text_of stops.front) stops.text ≤ later
  least other later (inl flawed) = let same = (one_flaw bytes error other (met_at stops.flaw (text_of stops.front) stops.text) later met flawed).1 in omega arith
  least other later (inr bad) = let before = flaw_before_bad_byte bytes error other (met_at stops.flaw (text_of stops.front) stops.text) later met bad in omega arith

first_bad_byte : (bytes cs left : List ℕ) (whole : Bool) (error : TokenError) → HasText bytes cs left → (whole ≡ false → 0 < length left) → StopsInBadByte cs whole error → IsFirstFault bytes error
first_bad_byte bytes cs left whole error text some_left stops = record { place = offset cs; meets = inr met; least = least } where
  met : MeetsBadByte bytes error (offset cs)
  met = record { characters = cs; left = left; read = text; some = some_left stops.more; named = stops.named; met = refl }

  least : (other : TokenError) (later : ℕ) → Meets bytes other later → offset cs ≤ later
  least other later (inl flawed) = absurd (no_flaw bytes cs left whole error other later text (some_left stops.more) stops flawed)
  least other later (inr bad) = omega (arith, bad.met, ap offset (one_text bytes bad.characters cs bad.left left bad.read text).0)

module _ (bytes cs left : List ℕ) (whole : Bool) (text : HasText bytes cs left) (none : whole ≡ true → left ≡ []) (some_left : whole ≡ false → 0 < length left) where
  first : (error : TokenError) → StopsInFlaw cs whole error ⊎ StopsInBadByte cs whole error → IsFirstFault bytes error
  first error (inl stops) = first_flaw bytes cs left whole error text none stops
  first error (inr stops) = first_bad_byte bytes cs left whole error text some_left stops

  pub has_fault : (error : TokenError) → StopsAt cs whole error → HasFault bytes error
  has_fault (BadUtf8 at) stops = first (BadUtf8 at) stops
  has_fault (BadChar at) stops = first (BadChar at) stops
  has_fault (BadNumber at) stops = first (BadNumber at) stops
  has_fault (Unclosed at) stops = first (Unclosed at) stops
  has_fault OutOfMemory stops = tt
