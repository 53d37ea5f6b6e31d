-- Single tokens, identifiers and types: what is written is read, and what is read is written.
use Rattle.std.proofs.Common.{◌≡◌, ℕ, zero, suc, ◌+◌, ◌≤◌, ◌<◌, nat_lt, if◌then◌else◌, List, [], ◌∷◌, length, Bool, true, false, Ok, Err, refl, ◌∙◌, ap, subst, arith, rules}
use denote.Enum.Bare.{same_true, true_same}
use Rattle.java_tokens.specs.declared.token.Keyword.{Keyword}
use Rattle.java_tokens.specs.declared.token.Keyword.TheVariants as w
use Rattle.java_tokens.specs.contracts.token.Keyword.{the_type as keyword_type}
use Rattle.java_tokens.specs.declared.token.Operator.{Operator}
use Rattle.java_tokens.specs.declared.token.Operator.TheVariants as o
use Rattle.java_tokens.specs.contracts.token.Operator.{the_type as operator_type}
use Rattle.java_tokens.specs.declared.token.TokenKind.{TokenKind}
use Rattle.java_tokens.specs.declared.token.TokenKind.TheVariants as k
use Rattle.token_reading.specs.declared.name.BaseType.{BaseType}
use Rattle.token_reading.specs.declared.name.BaseType.TheVariants as base
use Rattle.token_reading.specs.declared.name.Ident.{Ident}
use Rattle.token_reading.specs.declared.name.TypeTree.{TypeTree}
use Rattle.token_reading.specs.Lexeme.{Lexeme, lexeme, Then, same_operator, same_keyword, is_operator, is_keyword, sees, sees_word}
use Rattle.token_reading.specs.Types.{IsIdent, Brackets, IsBase, IsType}
use Rattle.token_reading.specs.Height.{type_height}
use Rattle.token_reading.specs.Outcome.{no_tree, too_high, Outcome, ◌>>=◌}
use Rattle.token_reading.specs.ReadType.{next, expect, expect_word, ident_by, ident, brackets, pairs, base_keyword, base_by, base_type, type_of, type_tree}
use Rattle.token_reading.proofs.Tests.{from_below, from_not_below}

pub then_length : (kd : TokenKind) (xs rest : List Lexeme) → Then kd xs rest → length xs ≡ length rest + 1
then_length kd xs rest t = omega (arith, ap length t.1)

-- ---- what is written is read

pub sees_it : (s : Operator) (at : ℕ) (xs : List Lexeme) → sees s (lexeme at (k.Op s) ∷ xs) ≡ true
unfolding same_operator
sees_it s at xs = true_same operator_type s s refl

pub expect_it : (s : Operator) (at : ℕ) (xs : List Lexeme) → expect s (lexeme at (k.Op s) ∷ xs) ≡ Ok (tt, xs)
unfolding expect
expect_it s at xs = rw (sees_it s at xs) refl

pub sees_word_it : (s : Keyword) (at : ℕ) (xs : List Lexeme) → sees_word s (lexeme at (k.Word s) ∷ xs) ≡ true
unfolding same_keyword
sees_word_it s at xs = true_same keyword_type s s refl

pub expect_word_it : (s : Keyword) (at : ℕ) (xs : List Lexeme) → expect_word s (lexeme at (k.Word s) ∷ xs) ≡ Ok (tt, xs)
unfolding expect_word
expect_word_it s at xs = rw (sees_word_it s at xs) refl

pub ident_read : (x : Ident) (xs rest : List Lexeme) → IsIdent x xs rest → ident xs ≡ Ok (x, rest)
unfolding ident
ident_read x xs rest w = rw w refl

pub brackets_read : (n fuel found all : ℕ) (xs rest : List Lexeme) → found + n ≡ all → n ≤ fuel → Brackets n xs rest
    → sees o.LeftBracket rest ≡ false
    → brackets fuel found xs ≡ Ok (all, rest)
unfolding brackets same_operator
brackets_read zero zero found all xs rest is room w shut = let same : found ≡ all = omega arith in rw (w, same) refl
brackets_read zero (suc fuel) found all xs rest is room w shut =
    let same : found ≡ all = omega arith in rw (w, shut, same) refl
brackets_read (suc n) zero found all xs rest is room w shut = absurd (omega arith)
brackets_read (suc n) (suc fuel) found all xs rest is room w shut =
    rw (w.1.1, w.3.1, expect_it o.RightBracket w.3.0 w.2)
    (brackets_read n fuel (found + 1) all w.2 rest (omega arith) (omega arith) w.4 shut)

pub brackets_length : (n : ℕ) (xs rest : List Lexeme) → Brackets n xs rest → n + n + length rest ≡ length xs
brackets_length zero xs rest w = omega (arith, ap length w)
brackets_length (suc n) xs rest w =
    omega (arith, then_length _ xs w.0 w.1, then_length _ w.0 w.2 w.3, brackets_length n w.2 rest w.4)

pub base_length : (b : BaseType) (xs rest : List Lexeme) → IsBase b xs rest → length xs ≡ length rest + 1
base_length base.Int xs rest t = then_length _ xs rest t
base_length base.Boolean xs rest t = then_length _ xs rest t
base_length (base.Class x) xs rest w = omega (arith, ap length w)

pub base_read : (b : BaseType) (xs rest : List Lexeme) → IsBase b xs rest → base_type xs ≡ Ok (b, rest)
unfolding base_type
base_read base.Int xs rest t = rw t.1 refl
base_read base.Boolean xs rest t = rw t.1 refl
base_read (base.Class x) xs rest w = rw w refl

pub type_length : (t : TypeTree) (xs rest : List Lexeme) → IsType t xs rest → type_height t + length rest < length xs
type_length t xs rest w = omega (arith, base_length t.base xs w.0 w.1, brackets_length t.dimensions w.0 rest w.2)

-- ---- what is read is written

sees_kind : (s : Operator) (x : Lexeme) (xs : List Lexeme) (kd : TokenKind) → x.kind ≡ kd → is_operator s kd ≡ true
    → Then (k.Op s) (x ∷ xs) xs
unfolding same_operator
sees_kind s x xs (k.Op t) is h =
    (x.at, ap (λ kd. lexeme x.at kd ∷ xs) (is ∙ ap k.Op (same_true operator_type (search rules) t s h)))
sees_kind s x xs _ is h = absurd (cc)

pub from_sees : (s : Operator) (xs : List Lexeme) → sees s xs ≡ true → Then (k.Op s) xs (next xs)
from_sees s [] h = absurd (cc)
from_sees s (x ∷ xs) h = sees_kind s x xs x.kind refl h

word_kind : (s : Keyword) (x : Lexeme) (xs : List Lexeme) (kd : TokenKind) → x.kind ≡ kd → is_keyword s kd ≡ true
    → Then (k.Word s) (x ∷ xs) xs
unfolding same_keyword
word_kind s x xs (k.Word t) is h =
    (x.at, ap (λ kd. lexeme x.at kd ∷ xs) (is ∙ ap k.Word (same_true keyword_type (search rules) t s h)))
word_kind s x xs _ is h = absurd (cc)

pub from_sees_word : (s : Keyword) (xs : List Lexeme) → sees_word s xs ≡ true → Then (k.Word s) xs (next xs)
from_sees_word s [] h = absurd (cc)
from_sees_word s (x ∷ xs) h = word_kind s x xs x.kind refl h

-- What is read is written by this relation, and only higher trees are there where H holds.
abbrev pub Limited : {A : Type 0} → (A → List Lexeme → List Lexeme → Type 0) → Type 0 → List Lexeme → Outcome A → Type 0
Limited R H xs (Ok p) = R p.0 xs p.1
Limited R H xs (Err too_high) = H
Limited R H xs (Err no_tree) = Unit {0}

-- the same where no height is asked for
abbrev pub Plainly : {A : Type 0} → (A → List Lexeme → List Lexeme → Type 0) → List Lexeme → Outcome A → Type 0
Plainly R = Limited R ⊥

abbrev pub Expected : Operator → List Lexeme → Outcome (Unit {0}) → Type 0
Expected s = Plainly (λ _ ys zs. Then (k.Op s) ys zs)

expected_by : (s : Operator) (xs : List Lexeme) (t : Bool) → sees s xs ≡ t → Expected s xs (expect s xs)
unfolding expect
expected_by s xs true h = rw h (from_sees s xs h)
expected_by s xs false h = rw h tt

pub expected : (s : Operator) (xs : List Lexeme) → Expected s xs (expect s xs)
expected s xs = expected_by s xs (sees s xs) refl

abbrev pub ExpectedWord : Keyword → List Lexeme → Outcome (Unit {0}) → Type 0
ExpectedWord s = Plainly (λ _ ys zs. Then (k.Word s) ys zs)

expected_word_by : (s : Keyword) (xs : List Lexeme) (t : Bool) → sees_word s xs ≡ t
    → ExpectedWord s xs (expect_word s xs)
unfolding expect_word
expected_word_by s xs true h = rw h (from_sees_word s xs h)
expected_word_by s xs false h = rw h tt

pub expected_word : (s : Keyword) (xs : List Lexeme) → ExpectedWord s xs (expect_word s xs)
expected_word s xs = expected_word_by s xs (sees_word s xs) refl

ident_kind : (x : Lexeme) (xs : List Lexeme) (kd : TokenKind) → x.kind ≡ kd
    → Plainly IsIdent (x ∷ xs) (ident_by x.at kd xs)
ident_kind x xs (k.Ident y) is = ap (λ kd. lexeme x.at kd ∷ xs) is
ident_kind x xs _ is = tt

pub ident_written : (xs : List Lexeme) → Plainly IsIdent xs (ident xs)
unfolding ident
ident_written [] = tt
ident_written (x ∷ xs) = ident_kind x xs x.kind refl

base_word : (x : Lexeme) (xs : List Lexeme) (s : Keyword) → x.kind ≡ k.Word s
    → Plainly IsBase (x ∷ xs) (base_keyword s xs)
base_word x xs w.Int is = (x.at, ap (λ kd. lexeme x.at kd ∷ xs) is)
base_word x xs w.Boolean is = (x.at, ap (λ kd. lexeme x.at kd ∷ xs) is)
base_word x xs _ is = tt

base_kind : (x : Lexeme) (xs : List Lexeme) (kd : TokenKind) → x.kind ≡ kd
    → Plainly IsBase (x ∷ xs) (base_by x.at kd xs)
base_kind x xs (k.Ident y) is = ap (λ kd. lexeme x.at kd ∷ xs) is
base_kind x xs (k.Word s) is = base_word x xs s is
base_kind x xs _ is = tt

pub base_written : (xs : List Lexeme) → Plainly IsBase xs (base_type xs)
unfolding base_type
base_written [] = tt
base_written (x ∷ xs) = base_kind x xs x.kind refl

-- the pairs of brackets beyond those that were found, and no `[` after them
abbrev pub MoreBrackets : ℕ → ℕ → List Lexeme → List Lexeme → Type 0
MoreBrackets found all xs rest = (n : ℕ) × (all ≡ found + n) × Brackets n xs rest × (sees o.LeftBracket rest ≡ false)

brackets_one : (found : ℕ) (xs ys zs : List Lexeme) → Then (k.Op o.LeftBracket) xs ys → Then (k.Op o.RightBracket) ys zs
    → (r : Outcome ℕ)
    → Plainly (MoreBrackets (found + 1)) zs r → Plainly (MoreBrackets found) xs r
brackets_one found xs ys zs t u (Ok p) s = (suc s.0, omega (arith, s.1), (ys, t, zs, u, s.2), s.3)
brackets_one found xs ys zs t u (Err no_tree) s = tt
brackets_one found xs ys zs t u (Err too_high) s = s

brackets_close : (fuel found : ℕ)
    → ((found : ℕ) (xs : List Lexeme) → length xs ≤ fuel → Plainly (MoreBrackets found) xs (brackets fuel found xs))
    → (xs ys : List Lexeme) → length xs ≤ suc fuel → Then (k.Op o.LeftBracket) xs ys → (r : Outcome (Unit {0}))
    → Expected o.RightBracket ys r
    → Plainly (MoreBrackets found) xs (r >>= (λ _ zs. brackets fuel (found + 1) zs))
brackets_close fuel found ih xs ys room t (Ok p) u =
    brackets_one found xs ys p.1 t u (brackets fuel (found + 1) p.1)
    (ih (found + 1) p.1 (omega (arith, then_length _ xs ys t, then_length _ ys p.1 u)))
brackets_close fuel found ih xs ys room t (Err no_tree) u = tt
brackets_close fuel found ih xs ys room t (Err too_high) u = absurd u

brackets_test : (fuel found : ℕ)
    → ((found : ℕ) (xs : List Lexeme) → length xs ≤ fuel → Plainly (MoreBrackets found) xs (brackets fuel found xs))
    → (xs : List Lexeme) → length xs ≤ suc fuel → (t : Bool) → sees o.LeftBracket xs ≡ t
    → Plainly (MoreBrackets found) xs
    (if t then (expect o.RightBracket (next xs) >>= (λ _ zs. brackets fuel (found + 1) zs)) else Ok (found, xs))
brackets_test fuel found ih xs room true t =
    brackets_close fuel found ih xs (next xs) room (from_sees o.LeftBracket xs t)
    (expect o.RightBracket (next xs)) (expected o.RightBracket (next xs))
brackets_test fuel found ih xs room false t = (0, omega arith, refl, t)

pub brackets_written : (fuel found : ℕ) (xs : List Lexeme) → length xs ≤ fuel
    → Plainly (MoreBrackets found) xs (brackets fuel found xs)
unfolding brackets
brackets_written zero found [] room = (0, omega arith, refl, refl)
brackets_written zero found (x ∷ xs) room = absurd (omega arith)
brackets_written (suc fuel) found xs room =
    brackets_test fuel found (brackets_written fuel) xs room (sees o.LeftBracket xs) refl

-- pairs of brackets within the limit, and no `[` after them
abbrev pub IsPairs : ℕ → ℕ → List Lexeme → List Lexeme → Type 0
IsPairs most n xs rest = Brackets n xs rest × (n ≤ most) × (sees o.LeftBracket rest ≡ false)

pairs_test : (most n : ℕ) (xs rest : List Lexeme) → MoreBrackets 0 n xs rest → (t : Bool) → nat_lt most n ≡ t
    → Limited (IsPairs most) (most < length xs) xs (if t then Err too_high else Ok (n, rest))
pairs_test most n xs rest s true t = omega (arith, from_below most n t, s.1, brackets_length s.0 xs rest s.2)
pairs_test most n xs rest s false t =
    let same : s.0 ≡ n = omega (arith, s.1) in
    (subst (λ (k : ℕ). Brackets k xs rest) same s.2, from_not_below most n t, s.3)

pairs_by : (most : ℕ) (xs : List Lexeme) (r : Outcome ℕ) → Plainly (MoreBrackets 0) xs r
    → Limited (IsPairs most) (most < length xs) xs (r >>= (λ n ys. if nat_lt most n then Err too_high else Ok (n, ys)))
pairs_by most xs (Ok p) s = pairs_test most p.0 xs p.1 s (nat_lt most p.0) refl
pairs_by most xs (Err no_tree) s = tt
pairs_by most xs (Err too_high) s = absurd s

pub pairs_written : (most : ℕ) (xs : List Lexeme) → Limited (IsPairs most) (most < length xs) xs (pairs most xs)
unfolding pairs
pairs_written most xs = pairs_by most xs (brackets (length xs) 0 xs) (brackets_written (length xs) 0 xs (omega arith))

pub pairs_low : (most d : ℕ) (xs rest : List Lexeme) → pairs most xs ≡ Ok (d, rest) → d ≤ most
pairs_low most d xs rest is =
    (subst (λ (o : Outcome ℕ). Limited (IsPairs most) (most < length xs) xs o) is (pairs_written most xs)).1

-- a type of at most this height
abbrev pub TypeWithin : ℕ → TypeTree → List Lexeme → List Lexeme → Type 0
TypeWithin most t xs rest = IsType t xs rest × (type_height t ≤ most)

type_pairs : (most : ℕ) (b : BaseType) (xs ys : List Lexeme) → IsBase b xs ys → (r : Outcome ℕ)
    → Limited (IsPairs most) (most < length ys) ys r
    → Limited (TypeWithin most) (most < length xs) xs (r >>= (λ n zs. Ok (type_of b n, zs)))
type_pairs most b xs ys w (Ok p) s = ((ys, w, s.0), s.1)
type_pairs most b xs ys w (Err no_tree) s = tt
type_pairs most b xs ys w (Err too_high) s = omega (arith, base_length b xs ys w)

type_base : (most : ℕ) (xs : List Lexeme) (r : Outcome BaseType) → Plainly IsBase xs r
    → Limited (TypeWithin most) (most < length xs) xs (r >>= (λ b ys. pairs most ys >>= (λ n zs. Ok (type_of b n, zs))))
type_base most xs (Ok p) s = type_pairs most p.0 xs p.1 s (pairs most p.1) (pairs_written most p.1)
type_base most xs (Err no_tree) s = tt
type_base most xs (Err too_high) s = absurd s

pub type_written : (most : ℕ) (xs : List Lexeme) → Limited (TypeWithin most) (most < length xs) xs (type_tree most xs)
unfolding type_tree
type_written most xs = type_base most xs (base_type xs) (base_written xs)

pub type_low : (most : ℕ) (t : TypeTree) (xs rest : List Lexeme) → type_tree most xs ≡ Ok (t, rest)
    → type_height t ≤ most
type_low most t xs rest is =
    (subst (λ (o : Outcome TypeTree). Limited (TypeWithin most) (most < length xs) xs o) is (type_written most xs)).1
