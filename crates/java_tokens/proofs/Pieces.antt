-- Characters are pieces in one way.
use Rattle.std.proofs.Common.{◌≡◌, inl, inr, ℕ, ◌≤◌, List, [], ◌∷◌, ◌++◌, length, refl, sym, ap, ◌∙◌, subst, arith, append_assoc, length-append}
use Rattle.std.proofs.lemmas.Bool.{cases_lt}
use Rattle.std.proofs.lemmas.List.{append-nil}
use Rattle.java_tokens.specs.declared.lexeme.Lexeme.{Lexeme}
use Rattle.java_tokens.specs.declared.lexeme.Lexeme.TheVariants.{Malformed}
use Rattle.java_tokens.specs.declared.lexeme.Flaw.{Flaw}
use Rattle.java_tokens.specs.Lexemes.{IsLexeme, IsLongest}
use Rattle.java_tokens.specs.Tokens.{Piece, IsWellFormed, ArePieces}
use Rattle.java_tokens.specs.Faults.{text_of}
use Rattle.java_tokens.proofs.Begins.{some}
use Rattle.java_tokens.proofs.OneLexeme.{same_lexeme}

-- a shorter front is a front of the longer
split : (xs ys us vs : List ℕ) → xs ++ us ≡ ys ++ vs → length xs ≤ length ys → (more : List ℕ) × (ys ≡ xs ++ more) × (us ≡ more ++ vs)
split [] ys us vs same short = (ys, refl, same)
split (x ∷ xs) [] us vs same short = absurd (omega arith)
split (x ∷ xs) (y ∷ ys) us vs same short =
    let tails : xs ++ us ≡ ys ++ vs = cc in
    let heads : y ≡ x = cc in
    let more = split xs ys us vs tails (omega arith) in
    (more.0, (λ i. heads i ∷ more.1 i), more.2)

-- this stands in front of the characters, and nothing longer begins there
pub record IsFront (xs : List ℕ) (lexeme : Lexeme) (text rest : List ℕ) : Type 0 where
  pub split : xs ≡ text ++ rest
  pub is : IsLexeme lexeme text
  pub longest : IsLongest text rest

pub record SameFront (lexeme other : Lexeme) (text text' rest rest' : List ℕ) : Type 0 where
  pub lexeme_is : lexeme ≡ other
  pub text_is : text ≡ text'
  pub rest_is : rest ≡ rest'

no_longer : {xs : List ℕ} {lexeme other : Lexeme} {text text' rest rest' : List ℕ} → IsFront xs lexeme text rest → IsFront xs other text' rest' → length text ≤ length text' → (text ≡ text') × (rest ≡ rest')
no_longer {xs} {lexeme} {other} {text} {text'} {rest} {rest'} front front' short =
    let more = split text text' rest rest' (sym front.split ∙ front'.split) short in
    let none : more.0 ≡ [] = front.longest other more.0 rest' more.2 (subst (IsLexeme other) more.1 front'.is) in
    (sym (more.1 ∙ ap (λ m. text ++ m) none ∙ append-nil text), more.2 ∙ ap (λ m. m ++ rest') none)

one_front-texts : {xs : List ℕ} {lexeme other : Lexeme} {text text' rest rest' : List ℕ} → IsFront xs lexeme text rest → IsFront xs other text' rest' → (text ≡ text') × (rest ≡ rest')
one_front-texts {xs} {lexeme} {other} {text} {text'} {rest} {rest'} front front' =
    elim (cases_lt (length text) (length text')) [
      | inl below ↦ no_longer front front' (omega arith)
      | inr above ↦ let same = no_longer front' front above in (sym same.0, sym same.1)
    ]

pub one_front : {xs : List ℕ} {lexeme other : Lexeme} {text text' rest rest' : List ℕ} → IsFront xs lexeme text rest → IsFront xs other text' rest' → SameFront lexeme other text text' rest rest'
one_front {xs} {lexeme} {other} {text} {text'} {rest} {rest'} front front' =
    let texts = one_front-texts front front' in
    record {
      lexeme_is = same_lexeme lexeme other text' (subst (IsLexeme lexeme) texts.0 front.is) front'.is;
      text_is = texts.0;
      rest_is = texts.1;
    }

-- no well-formed piece stands in front
pub record Stops (xs : List ℕ) : Type 0 where
  pub no_piece : (lexeme : Lexeme) (text rest : List ℕ) → IsFront xs lexeme text rest → IsWellFormed lexeme → ⊥

pub stops-nil : Stops []
stops-nil = record {
  no_piece = λ lexeme text rest front formed. omega (arith, ap length front.split, length-append text rest, some lexeme text front.is);
}

pub stops-flaw : (flaw : Flaw) (xs text rest : List ℕ) → IsFront xs (Malformed flaw) text rest → Stops xs
stops-flaw flaw xs text rest front = record {
  no_piece = λ lexeme text' rest' front' formed. subst IsWellFormed (one_front front' front).lexeme_is formed;
}

-- the first of pieces stands in front
first : (piece : Piece) (pieces : List Piece) (xs rest : List ℕ) → (are : ArePieces (piece ∷ pieces) xs rest) → IsFront xs piece.lexeme piece.text are.0
first piece pieces xs rest are = record { split = are.1; is = are.2; longest = are.4 }

pub one_pieces : (ps qs : List Piece) (xs rest rest' : List ℕ) → ArePieces ps xs rest → ArePieces qs xs rest' → Stops rest → Stops rest' → (ps ≡ qs) × (rest ≡ rest')
one_pieces [] [] xs rest rest' are are' stops stops' = (refl, sym are ∙ are')
one_pieces [] (q ∷ qs) xs rest rest' are are' stops stops' =
    absurd (stops.no_piece q.lexeme q.text are'.0 (subst (λ x. IsFront x q.lexeme q.text are'.0) are (first q qs xs rest' are')) are'.3)
one_pieces (p ∷ ps) [] xs rest rest' are are' stops stops' =
    absurd (stops'.no_piece p.lexeme p.text are.0 (subst (λ x. IsFront x p.lexeme p.text are.0) are' (first p ps xs rest are)) are.3)
one_pieces (p ∷ ps) (q ∷ qs) xs rest rest' are are' stops stops' =
    let same = one_front (first p ps xs rest are) (first q qs xs rest' are') in
    let more = one_pieces ps qs are.0 rest rest' are.5 (subst (λ behind. ArePieces qs behind rest') (sym same.rest_is) are'.5) stops stops' in
    let piece : p ≡ q = (λ i. record { lexeme = same.lexeme_is i; text = same.text_is i }) in
    ((λ i. piece i ∷ more.0 i), more.1)

-- the characters are those of the pieces, and the rest
pub pieces_text : (ps : List Piece) (xs rest : List ℕ) → ArePieces ps xs rest → xs ≡ text_of ps ++ rest
pieces_text [] xs rest are = are
pieces_text (p ∷ ps) xs rest are =
    are.1 ∙ ap (λ behind. p.text ++ behind) (pieces_text ps are.0 rest are.5) ∙ sym (append_assoc p.text (text_of ps) rest)
