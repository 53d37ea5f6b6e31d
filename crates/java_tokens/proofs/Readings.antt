-- How the reader goes on, a piece at a time.
use Rattle.std.proofs.Common.{◌≡◌, ◌⊎◌, inl, inr, ℕ, ◌+◌, ◌<◌, ◌≤◌, List, [], ◌∷◌, ◌++◌, length, take, drop, sym, refl, ap, ◌∙◌, subst, arith, append_assoc, length-append, length-drop}
use Rattle.std.specs.List.{between}
use Rattle.std.proofs.lemmas.List.{append-nil, take-append-drop, drop-drop, length-take-le}
use Rattle.std.proofs.Math.Seq.{take-add}
use Rattle.std.proofs.lemmas.Slice.{between_to_end}
use Rattle.java_tokens.specs.declared.lexeme.Lexeme.{Lexeme}
use Rattle.java_tokens.specs.declared.lexeme.Lexeme.TheVariants as lexeme
use Rattle.java_tokens.specs.declared.place.Place.{Place}
use Rattle.java_tokens.specs.declared.token.Token.{Token}
use Rattle.java_tokens.specs.declared.token.TokenKind.{TokenKind}
use Rattle.java_tokens.specs.Lexemes.{IsLexeme, IsLongest}
use Rattle.java_tokens.specs.Places.{offset}
use Rattle.java_tokens.specs.Tokens.{Piece, IsWellFormed, ArePieces, token_at, token_of, tokens_of}
use Rattle.java_tokens.specs.Faults.{text_of}
use Rattle.java_tokens.specs.Reading.{IsScanned, IsPlace}
use Rattle.java_tokens.proofs.Begins.{some}
use Rattle.java_tokens.proofs.Texts.{offset-append}

pieces-push : (ps : List Piece) (p : Piece) (xs rest : List ℕ) → ArePieces ps xs (p.text ++ rest) → IsLexeme p.lexeme p.text → IsWellFormed p.lexeme → IsLongest p.text rest → ArePieces (ps ++ p ∷ []) xs rest
pieces-push [] p xs rest are is formed longest = (rest, are, is, formed, longest, refl)
pieces-push (q ∷ ps) p xs rest are is formed longest = (are.0, are.1, are.2, are.3, are.4, pieces-push ps p are.0 rest are.5 is formed longest)

text-push : (ps : List Piece) (p : Piece) → text_of (ps ++ p ∷ []) ≡ text_of ps ++ p.text
text-push [] p = append-nil p.text
text-push (q ∷ ps) p = ap (λ t. q.text ++ t) (text-push ps p) ∙ sym (append_assoc q.text (text_of ps) p.text)

tokens-push : (front : List ℕ) (ps : List Piece) (p : Piece) → tokens_of front (ps ++ p ∷ []) ≡ tokens_of front ps ++ token_of (front ++ text_of ps) p.text p.lexeme
tokens-push front [] p = append-nil (token_of front p.text p.lexeme) ∙ ap (λ f. token_of f p.text p.lexeme) (sym (append-nil front))
tokens-push front (q ∷ ps) p =
    ap (λ ts. token_of front q.text q.lexeme ++ ts) (tokens-push (front ++ q.text) ps p)
    ∙ sym (append_assoc (token_of front q.text q.lexeme) (tokens_of (front ++ q.text) ps) (token_of ((front ++ q.text) ++ text_of ps) p.text p.lexeme))
    ∙ ap (λ f. (token_of front q.text q.lexeme ++ tokens_of (front ++ q.text) ps) ++ token_of f p.text p.lexeme) (append_assoc front q.text (text_of ps))

-- the pieces up to an offset are read, and these are their tokens
pub record HasRead (xs : List ℕ) (tokens : List Token) (at : ℕ) : Type 0 where
  pub within : at ≤ length xs
  pub pieces : List Piece
  pub reached : ArePieces pieces xs (drop at xs)
  pub front : text_of pieces ≡ take at xs
  pub are : tokens ≡ tokens_of [] pieces
  pub few : length tokens ≤ at

token-few : (front text : List ℕ) (what : Lexeme) → length (token_of front text what) ≤ 1
token-few front text lexeme.White = omega arith
token-few front text lexeme.Comment = omega arith
token-few front text (lexeme.Token kind) = omega arith
token-few front text (lexeme.Malformed flaw) = omega arith

-- what was scanned stands after what is read
module _ (xs : List ℕ) (at n : ℕ) (what : Lexeme) (within : at ≤ length xs) (found : IsScanned (between at (length xs) xs) what n) where
  text : List ℕ
  text = take n (drop at xs)

  scanned-here : IsScanned (drop at xs) what n
  scanned-here = subst (λ ys. IsScanned ys what n) (between_to_end xs at (length xs) (omega arith)) found

  pub scanned-within : at + n ≤ length xs
  scanned-within = omega (arith, scanned-here.within, length-drop at xs)

  pub scanned-is : IsLexeme what (take n (drop at xs))
  scanned-is = scanned-here.is

  pub scanned-behind : drop n (drop at xs) ≡ drop (at + n) xs
  scanned-behind = drop-drop n at xs

  pub scanned-longest : IsLongest (take n (drop at xs)) (drop (at + n) xs)
  scanned-longest = subst (IsLongest (take n (drop at xs))) scanned-behind scanned-here.longest

  pub scanned-split : drop at xs ≡ take n (drop at xs) ++ drop (at + n) xs
  scanned-split = sym (take-append-drop n (drop at xs)) ∙ ap (λ ys. take n (drop at xs) ++ ys) scanned-behind

  pub scanned-some : 0 < n
  scanned-some = omega (arith, some what (take n (drop at xs)) scanned-is, length-take-le n (drop at xs) scanned-here.within)

-- one more piece
pub went_on : (xs : List ℕ) (tokens more : List Token) (at n : ℕ) (what : Lexeme) → HasRead xs tokens at → IsScanned (between at (length xs) xs) what n → IsWellFormed what → more ≡ tokens ++ token_of (take at xs) (take n (drop at xs)) what → HasRead xs more (at + n)
went_on xs tokens more at n what read found formed pushed =
    let text = take n (drop at xs) in
    let piece : Piece = record { lexeme = what; text = text } in
    let reached = subst (λ ys. ArePieces read.pieces xs ys) (scanned-split xs at n what read.within found) read.reached in
    let one = token-few (take at xs) text what in
    record {
      within = scanned-within xs at n what read.within found;
      pieces = read.pieces ++ piece ∷ [];
      reached = pieces-push read.pieces piece xs (drop (at + n) xs) reached (scanned-is xs at n what read.within found) formed (scanned-longest xs at n what read.within found);
      front = text-push read.pieces piece ∙ ap (λ f. f ++ text) read.front ∙ sym (take-add at n xs);
      are = pushed ∙ (λ i. read.are i ++ token_of (sym read.front i) text what) ∙ sym (tokens-push [] read.pieces piece);
      few = omega (arith, ap length pushed, length-append tokens (token_of (take at xs) text what), one, read.few, scanned-some xs at n what read.within found);
    }

-- white space and comments are no tokens
pub passed_over : (xs : List ℕ) (tokens : List Token) (at n : ℕ) (what : Lexeme) → HasRead xs tokens at → IsScanned (between at (length xs) xs) what n → (what ≡ lexeme.White) ⊎ (what ≡ lexeme.Comment) → HasRead xs tokens (at + n)
passed_over xs tokens at n what read found (inl is) =
    went_on xs tokens tokens at n lexeme.White read (subst (λ w. IsScanned (between at (length xs) xs) w n) is found) tt (sym (append-nil tokens))
passed_over xs tokens at n what read found (inr is) =
    went_on xs tokens tokens at n lexeme.Comment read (subst (λ w. IsScanned (between at (length xs) xs) w n) is found) tt (sym (append-nil tokens))

-- the token that stands there
pub token-here : (xs : List ℕ) (at n : ℕ) (place behind : Place) (kind : TokenKind) (token : Token) → IsPlace (take at xs) place → IsPlace (take (at + n) xs) behind → token.kind ≡ kind → token.start ≡ place.offset → token.end ≡ behind.offset → token.line ≡ place.line → token.column ≡ place.column → token ≡ token_at (take at xs) (take n (drop at xs)) kind
token-here xs at n place behind kind token here there kind_is start_is end_is line_is column_is =
    let end : token.end ≡ offset (take at xs) + offset (take n (drop at xs)) = end_is ∙ there.offset_is ∙ ap offset (take-add at n xs) ∙ offset-append (take at xs) (take n (drop at xs)) in
    let start = start_is ∙ here.offset_is in
    let line = line_is ∙ here.line_is in
    let column = column_is ∙ here.column_is in
    λ i. record { kind = kind_is i; start = start i; end = end i; line = line i; column = column i }
