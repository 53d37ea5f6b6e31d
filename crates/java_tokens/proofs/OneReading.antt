-- Bytes have one list of tokens at most, one fault at most, and not both.
use Rattle.std.proofs.Common.{◌≡◌, ◌≢◌, inl, inr, ℕ, ◌+◌, ◌-◌, ◌<◌, ◌≤◌, true, List, [], ◌∷◌, ◌++◌, length, take, drop, sym, refl, ap, ◌∙◌, subst, arith, length-append}
use Rattle.std.proofs.lemmas.List.{take-append-drop, length-drop}
use Rattle.java_tokens.specs.declared.lexeme.Lexeme.TheVariants.{Malformed}
use Rattle.java_tokens.specs.declared.lexeme.Flaw.{Flaw}
use Rattle.java_tokens.specs.declared.lexeme.Flaw.TheVariants as flaw
use Rattle.java_tokens.specs.declared.token.Token.{Token}
use Rattle.java_tokens.specs.declared.token.TokenKind.TheVariants.{End}
use Rattle.java_tokens.specs.declared.error.TokenError.{TokenError}
use Rattle.java_tokens.specs.declared.error.TokenError.TheVariants.{BadUtf8, BadChar, BadNumber, Unclosed, OutOfMemory}
use Rattle.java_tokens.specs.Characters.{is_line_end, first_passes}
use Rattle.java_tokens.specs.Lexemes.{HasFlaw, IsBadEscape}
use Rattle.java_tokens.specs.Places.{offset}
use Rattle.java_tokens.specs.Tokens.{ArePieces, token_at, tokens_of, AreTokens}
use Rattle.java_tokens.specs.Faults.{HasText, text_of, before_escape, error_of, met_at, IsOver, MeetsFlaw, MeetsBadByte, Meets, IsFirstFault, HasFault}
use Rattle.java_tokens.proofs.Begins.{some}
use Rattle.java_tokens.proofs.Texts.{one_text, whole_text, offset-append, offset-some}
use Rattle.java_tokens.proofs.Pieces.{IsFront, one_front, stops-nil, stops-flaw, one_pieces, pieces_text}

-- ---- lists

list_text : (bytes : List ℕ) (tokens : List Token) → (read : AreTokens bytes tokens) → HasText bytes read.characters []
list_text bytes tokens read = whole_text bytes read.characters read.scalars read.encoded

pub one_list : (bytes : List ℕ) (tokens others : List Token) → AreTokens bytes tokens → AreTokens bytes others → tokens ≡ others
one_list bytes tokens others read other =
    let characters = (one_text bytes read.characters other.characters [] [] (list_text bytes tokens read) (list_text bytes others other)).0 in
    let pieces = (one_pieces read.pieces other.pieces read.characters [] [] read.reached (subst (λ cs. ArePieces other.pieces cs []) (sym characters) other.reached) stops-nil stops-nil).0 in
    read.all ∙ (λ i. tokens_of [] (pieces i) ++ token_at (characters i) [] End ∷ []) ∙ sym other.all

-- ---- faults

-- a malformed text stands in front of what the pieces leave
pub flaw_front : {bytes : List ℕ} {error : TokenError} {place : ℕ} → (met : MeetsFlaw bytes error place) → IsFront (met.text ++ met.rest) (Malformed met.flaw) met.text met.rest
flaw_front met = record { split = refl; is = met.is; longest = met.longest }

pub flaw_same : (f g : Flaw) → Malformed f ≡ Malformed g → f ≡ g
flaw_same f g same = cc

pub one_flaw : (bytes : List ℕ) (error other : TokenError) (place later : ℕ) → MeetsFlaw bytes error place → MeetsFlaw bytes other later → (error ≡ other) × (place ≡ later)
one_flaw bytes error other place later met met' =
    let characters = (one_text bytes met.characters met'.characters met.left met'.left met.read met'.read).0 in
    let reached' = subst (λ cs. ArePieces met'.front cs (met'.text ++ met'.rest)) (sym characters) met'.reached in
    let same = one_pieces met.front met'.front met.characters (met.text ++ met.rest) (met'.text ++ met'.rest) met.reached reached' (stops-flaw met.flaw _ met.text met.rest (flaw_front met)) (stops-flaw met'.flaw _ met'.text met'.rest (flaw_front met')) in
    let front' : IsFront (met.text ++ met.rest) (Malformed met'.flaw) met'.text met'.rest = record { split = same.1; is = met'.is; longest = met'.longest } in
    let one = one_front (flaw_front met) front' in
    let flaws = flaw_same met.flaw met'.flaw one.lexeme_is in (
      met.named ∙ (λ i. error_of (flaws i) (text_of (same.0 i)) (one.text_is i)) ∙ sym met'.named,
      met.met ∙ (λ i. met_at (flaws i) (text_of (same.0 i)) (one.text_is i)) ∙ sym met'.met,
    )

-- where a malformed text is met, in front of the end of the characters
some-line_end : (rest : List ℕ) → first_passes is_line_end rest ≡ true → 0 < length rest
some-line_end [] passes = absurd (cc)
some-line_end (c ∷ cs) passes = omega arith

pub no_left : (left : List ℕ) → left ≡ [] → 0 < length left → ⊥
no_left left none some = omega (arith, ap length none)

escape_before : (text : List ℕ) → IsBadEscape text → offset (before_escape text) < offset text
escape_before text bad =
    let n = length text - 2 in
    let long : 3 ≤ length text = omega (arith, ap length bad.is, length-append bad.body (92 ∷ bad.letter ∷ [])) in
    let parts = offset-append (take n text) (drop n text) in
    let whole = ap offset (take-append-drop n text) in
    let more = offset-some (drop n text) (omega (arith, length-drop n text)) in
    omega (arith, parts, whole, more)

met_before : (f : Flaw) (front text rest left : List ℕ) → HasFlaw f text → 0 < length text → IsOver f rest left → 0 < length left → met_at f front text < offset (front ++ (text ++ rest))
met_before f front text rest left flawed some_text over some_left =
    by_flaw f flawed over (offset-append front (text ++ rest)) (offset-append text rest) (offset-some text some_text) where
      by_flaw : (g : Flaw) → HasFlaw g text → IsOver g rest left → offset (front ++ (text ++ rest)) ≡ offset front + offset (text ++ rest) → offset (text ++ rest) ≡ offset text + offset rest → 0 < offset text → met_at g front text < offset (front ++ (text ++ rest))
      by_flaw flaw.Character bad over a b c = omega arith
      by_flaw flaw.Number bad over a b c = omega arith
      by_flaw flaw.Escape bad over a b c = omega (arith, escape_before text bad, offset-append front (before_escape text))
      by_flaw flaw.OpenString bad (inl line) a b c = omega (arith, offset-append front text, offset-some rest (some-line_end rest line))
      by_flaw flaw.OpenString bad (inr end) a b c = absurd (no_left left end.1 some_left)
      by_flaw flaw.OpenComment bad end a b c = absurd (no_left left end.1 some_left)

pub flaw_before_bad_byte : (bytes : List ℕ) (error other : TokenError) (place later : ℕ) → MeetsFlaw bytes error place → MeetsBadByte bytes other later → place < later
flaw_before_bad_byte bytes error other place later met bad =
    let same = one_text bytes met.characters bad.characters met.left bad.left met.read bad.read in
    let some_left : 0 < length met.left = omega (arith, ap length same.1, bad.some) in
    let before = met_before met.flaw (text_of met.front) met.text met.rest met.left met.is (some (Malformed met.flaw) met.text met.is) met.over some_left in
    let whole : offset met.characters ≡ offset (text_of met.front ++ (met.text ++ met.rest)) = ap offset (pieces_text met.front met.characters (met.text ++ met.rest) met.reached) in
    omega (arith, before, whole, met.met, bad.met, ap offset same.0)

one_bad_byte : (bytes : List ℕ) (error other : TokenError) (place later : ℕ) → MeetsBadByte bytes error place → MeetsBadByte bytes other later → error ≡ other
one_bad_byte bytes error other place later met met' =
    let same = ap offset (one_text bytes met.characters met'.characters met.left met'.left met.read met'.read).0 in
    let places : place ≡ later = met.met ∙ same ∙ sym met'.met in
    met.named ∙ ap BadUtf8 places ∙ sym met'.named

first_same : (bytes : List ℕ) (error other : TokenError) (place later : ℕ) → place ≡ later → Meets bytes error place → Meets bytes other later → error ≡ other
first_same bytes error other place later same (inl met) (inl met') = (one_flaw bytes error other place later met met').0
first_same bytes error other place later same (inl met) (inr met') = absurd (omega (arith, flaw_before_bad_byte bytes error other place later met met'))
first_same bytes error other place later same (inr met) (inl met') = absurd (omega (arith, flaw_before_bad_byte bytes other error later place met' met))
first_same bytes error other place later same (inr met) (inr met') = one_bad_byte bytes error other place later met met'

is_first : (bytes : List ℕ) (error : TokenError) → error ≢ OutOfMemory → HasFault bytes error → IsFirstFault bytes error
is_first bytes (BadUtf8 at) memory fault = fault
is_first bytes (BadChar at) memory fault = fault
is_first bytes (BadNumber at) memory fault = fault
is_first bytes (Unclosed at) memory fault = fault
is_first bytes OutOfMemory memory fault = absurd (memory refl)

pub one_fault : (bytes : List ℕ) (error other : TokenError) → error ≢ OutOfMemory → other ≢ OutOfMemory → HasFault bytes error → HasFault bytes other → error ≡ other
one_fault bytes error other memory memory' fault fault' =
    let one = is_first bytes error memory fault in
    let two = is_first bytes other memory' fault' in
    first_same bytes error other one.place two.place (omega (arith, one.least other two.place two.meets, two.least error one.place one.meets)) one.meets two.meets

-- ---- not both

no_fault_met : (bytes : List ℕ) (tokens : List Token) (error : TokenError) (place : ℕ) → AreTokens bytes tokens → Meets bytes error place → ⊥
no_fault_met bytes tokens error place read (inl met) =
    let characters = (one_text bytes read.characters met.characters [] met.left (list_text bytes tokens read) met.read).0 in
    let reached = subst (λ cs. ArePieces read.pieces cs []) characters read.reached in
    let same = (one_pieces read.pieces met.front met.characters [] (met.text ++ met.rest) reached met.reached stops-nil (stops-flaw met.flaw _ met.text met.rest (flaw_front met))).1 in
    omega (arith, ap length same, length-append met.text met.rest, some (Malformed met.flaw) met.text met.is)
no_fault_met bytes tokens error place read (inr met) =
    no_left met.left (sym (one_text bytes read.characters met.characters [] met.left (list_text bytes tokens read) met.read).1) met.some

pub no_list_with_fault : (bytes : List ℕ) (tokens : List Token) (error : TokenError) → error ≢ OutOfMemory → AreTokens bytes tokens → HasFault bytes error → ⊥
no_list_with_fault bytes tokens error memory read fault =
    let first = is_first bytes error memory fault in
    no_fault_met bytes tokens error first.place read first.meets
