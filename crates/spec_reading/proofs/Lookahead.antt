-- A spec method is seen where `spec`, a type and an identifier stand, and nowhere else.
use Rattle.std.proofs.Common.{◌≡◌, ℕ, zero, suc, ◌&&◌, if◌then◌else◌, List, [], ◌∷◌, Bool, true, false, codes, refl, ap}
use Rattle.java_tokens.specs.declared.token.Keyword.{Keyword}
use Rattle.java_tokens.specs.declared.token.Keyword.TheVariants as w
use Rattle.java_tokens.specs.declared.token.Operator.TheVariants as o
use Rattle.java_tokens.specs.declared.token.TokenKind.{TokenKind}
use Rattle.java_tokens.specs.declared.token.TokenKind.TheVariants as k
use Rattle.token_reading.specs.declared.name.BaseType.{BaseType}
use Rattle.token_reading.specs.declared.name.BaseType.TheVariants as base
use Rattle.token_reading.specs.declared.name.Ident.{Ident}
use Rattle.token_reading.specs.Lexeme.{Lexeme, lexeme, same_operator, is_operator, sees}
use Rattle.token_reading.specs.ReadType.{next, is_name, sees_name, ident_at, type_of}
use Rattle.token_reading.specs.Types.{IsIdent, IsBase, Brackets, past_brackets}
use Rattle.token_reading.proofs.Lexemes.{from_sees}
use Rattle.spec_trees.specs.declared.contract.SpecTree.{SpecTree}
use Rattle.spec_trees.specs.Clauses.{SpecWithin}
use Rattle.spec_reading.specs.Lookahead.{is_base_keyword, is_base, sees_base, is_spec}
use Rattle.spec_reading.specs.ReadContract.{sees_text}
use Rattle.spec_reading.specs.SpecLaws.{BeginsSpec, SeesSpecs, SpecsBeginSo}
use Rattle.spec_reading.proofs.ContractSound.{from_text}

both : (a b : Bool) → a && b ≡ true → (a ≡ true) × (b ≡ true)
both true b h = (refl, h)
both false b h = absurd (cc)

-- ---- what is seen stands there

past_test : (x y : Lexeme) (xs : List Lexeme) → ((n : ℕ) × Brackets n xs (past_brackets xs)) → (t u : Bool) → is_operator o.LeftBracket x.kind ≡ t
    → is_operator o.RightBracket y.kind ≡ u → (n : ℕ) × Brackets n (x ∷ y ∷ xs) (if t && u then past_brackets xs else x ∷ y ∷ xs)
past_test x y xs more true true t u =
    (suc more.0, (y ∷ xs, from_sees o.LeftBracket (x ∷ y ∷ xs) t, xs, from_sees o.RightBracket (y ∷ xs) u, more.1))
past_test x y xs more true false t u = (0, refl)
past_test x y xs more false u t v = (0, refl)

past_written : (xs : List Lexeme) → (n : ℕ) × Brackets n xs (past_brackets xs)
past_written [] = (0, refl)
past_written (x ∷ []) = (0, refl)
past_written (x ∷ y ∷ xs) =
    past_test x y xs (past_written xs) (is_operator o.LeftBracket x.kind) (is_operator o.RightBracket y.kind) refl refl

base_word : (x : Lexeme) (xs : List Lexeme) (s : Keyword) → x.kind ≡ k.Word s → is_base_keyword s ≡ true → (b : BaseType) × IsBase b (x ∷ xs) xs
base_word x xs w.Int is h = (base.Int, (x.at, ap (λ kd. lexeme x.at kd ∷ xs) is))
base_word x xs w.Boolean is h = (base.Boolean, (x.at, ap (λ kd. lexeme x.at kd ∷ xs) is))
base_word x xs _ is h = absurd (cc)

base_kind : (x : Lexeme) (xs : List Lexeme) (kd : TokenKind) → x.kind ≡ kd → is_base kd ≡ true → (b : BaseType) × IsBase b (x ∷ xs) xs
base_kind x xs (k.Ident y) is h = (base.Class (ident_at x.at y), ap (λ kd. lexeme x.at kd ∷ xs) is)
base_kind x xs (k.Word s) is h = base_word x xs s is h
base_kind x xs _ is h = absurd (cc)

base_seen : (xs : List Lexeme) → sees_base xs ≡ true → (b : BaseType) × IsBase b xs (next xs)
base_seen [] h = absurd (cc)
base_seen (x ∷ xs) h = base_kind x xs x.kind refl h

name_kind : (x : Lexeme) (xs : List Lexeme) (kd : TokenKind) → x.kind ≡ kd → is_name kd ≡ true → (y : Ident) × IsIdent y (x ∷ xs) xs
name_kind x xs (k.Ident y) is h = (ident_at x.at y, ap (λ kd. lexeme x.at kd ∷ xs) is)
name_kind x xs _ is h = absurd (cc)

name_seen : (xs : List Lexeme) → sees_name xs ≡ true → (y : Ident) × IsIdent y xs (next xs)
name_seen [] h = absurd (cc)
name_seen (x ∷ xs) h = name_kind x xs x.kind refl h

spec_seen : (xs : List Lexeme) → is_spec xs ≡ true → BeginsSpec xs
spec_seen xs h =
    let first = both (sees_text (codes "spec") xs) (sees_base (next xs) && sees_name (past_brackets (next (next xs)))) h in
    let second = both (sees_base (next xs)) (sees_name (past_brackets (next (next xs)))) first.1 in
    let b = base_seen (next xs) second.0 in
    let n = past_written (next (next xs)) in
    let y = name_seen (past_brackets (next (next xs))) second.1 in (
      next xs,
      from_text (codes "spec") xs first.0,
      type_of b.0 n.0,
      past_brackets (next (next xs)),
      (next (next xs), b.1, n.1),
      y.0,
      next (past_brackets (next (next xs))),
      y.1,
    )

-- ---- and the other way round

stays : (xs : List Lexeme) → sees o.LeftBracket xs ≡ false → past_brackets xs ≡ xs
stays [] shut = refl
stays (x ∷ []) shut = refl
stays (x ∷ y ∷ xs) shut = rw shut refl

past : (n : ℕ) (xs rest : List Lexeme) → Brackets n xs rest → sees o.LeftBracket rest ≡ false → past_brackets xs ≡ rest
unfolding same_operator
past zero xs rest v shut = rw v (stays rest shut)
past (suc n) xs rest v shut = rw (v.1.1, v.3.1) (past n v.2 rest v.4 shut)

name_no_bracket : (x : Ident) (xs rest : List Lexeme) → IsIdent x xs rest → sees o.LeftBracket xs ≡ false
name_no_bracket x xs rest is = rw is refl

type_seen : (b : BaseType) (n : ℕ) (x : Ident) (xs ys zs rest : List Lexeme) → IsBase b xs ys → Brackets n ys zs → IsIdent x zs rest
    → sees_base xs && sees_name (past_brackets (next xs)) ≡ true
type_seen base.Int n x xs ys zs rest v brackets named =
    rw (v.1, past n ys zs brackets (name_no_bracket x zs rest named), named) refl
type_seen base.Boolean n x xs ys zs rest v brackets named =
    rw (v.1, past n ys zs brackets (name_no_bracket x zs rest named), named) refl
type_seen (base.Class y) n x xs ys zs rest v brackets named =
    rw (v, past n ys zs brackets (name_no_bracket x zs rest named), named) refl

seen_spec : (xs : List Lexeme) → BeginsSpec xs → is_spec xs ≡ true
seen_spec xs s = rw s.1.1 (type_seen s.2.base s.2.dimensions s.5 s.0 s.4.0 s.3 s.6 s.4.1 s.4.2 s.7)

pub sees_specs : SeesSpecs
sees_specs xs = (spec_seen xs, seen_spec xs)

begins : (n : ℕ) (t : SpecTree) (xs rest : List Lexeme) → SpecWithin n t xs rest → BeginsSpec xs
unfolding SpecWithin
begins zero t xs rest w = absurd w
begins (suc n) t xs rest w = let s = w.0 in (s.0, (t.at, s.1), t.ty, s.2, s.3, t.name, s.4, s.5)

pub specs_begin_so : SpecsBeginSo
specs_begin_so t xs rest s = begins s.0 t xs rest s.1
