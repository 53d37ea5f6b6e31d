-- A type in parentheses before an operand is seen as a cast, and nothing else is.
use Rattle.std.proofs.Common.{◌≡◌, ℕ, zero, suc, ◌≤◌, ◌&&◌, if◌then◌else◌, List, [], ◌∷◌, Bool, true, false, refl, ap}
use Rattle.java_tokens.specs.declared.token.Keyword.{Keyword}
use Rattle.java_tokens.specs.declared.token.Keyword.TheVariants as w
use Rattle.java_tokens.specs.declared.token.Operator.TheVariants as o
use Rattle.java_tokens.specs.declared.token.TokenKind.{TokenKind}
use Rattle.java_tokens.specs.declared.token.TokenKind.TheVariants as k
use Rattle.token_reading.specs.declared.name.BaseType.{BaseType}
use Rattle.token_reading.specs.declared.name.BaseType.TheVariants as base
use Rattle.token_reading.specs.declared.name.TypeTree.{TypeTree}
use Rattle.token_reading.specs.Lexeme.{Lexeme, lexeme, Then, same_operator, is_operator, sees}
use Rattle.token_reading.specs.Types.{Brackets, IsBase, IsType, past_brackets}
use Rattle.java_syntax.specs.Exprs.{begins_plain, begins_type_keyword, begins_type, closes_cast, casts}
use Rattle.java_reading.specs.ExprLaws.{sees_plain, BeginsCast, SeesCasts}
use Rattle.token_reading.specs.ReadType.{ident_at, type_of}
use Rattle.java_reading.proofs.Begins.{Begins}
use Rattle.token_reading.proofs.Lexemes.{from_sees}

stays : (xs : List Lexeme) → sees o.LeftBracket xs ≡ false → past_brackets xs ≡ xs
stays [] shut = refl
stays (x ∷ []) shut = refl
stays (x ∷ y ∷ xs) shut = rw shut refl

past : (n : ℕ) (xs rest : List Lexeme) → Brackets n xs rest → sees o.LeftBracket rest ≡ false → past_brackets xs ≡ rest
unfolding same_operator
past zero xs rest w shut = rw w (stays rest shut)
past (suc n) xs rest w shut = rw (w.1.1, w.3.1) (past n w.2 rest w.4 shut)

pub close_no_bracket : (xs rest : List Lexeme) → Then (k.Op o.RightParen) xs rest → sees o.LeftBracket xs ≡ false
unfolding same_operator
close_no_bracket xs rest t = rw t.1 refl

base_casts : (b : BaseType) (n l : ℕ) (xs ys zs us : List Lexeme) → IsBase b xs ys → Brackets n ys zs → Then (k.Op o.RightParen) zs us → 13 ≤ l → Begins l us
    → casts xs ≡ true
unfolding same_operator
base_casts base.Int n l xs ys zs us w v t high s = rw (w.1, past n ys zs v (close_no_bracket zs us t), t.1, s.is, s.plain high) refl
base_casts base.Boolean n l xs ys zs us w v t high s = rw (w.1, past n ys zs v (close_no_bracket zs us t), t.1, s.is, s.plain high) refl
base_casts (base.Class x) n l xs ys zs us w v t high s = rw (w, past n ys zs v (close_no_bracket zs us t), t.1, s.is, s.plain high) refl

pub is_cast : (t : TypeTree) (l : ℕ) (xs zs us : List Lexeme) → IsType t xs zs → Then (k.Op o.RightParen) zs us → 13 ≤ l → Begins l us → casts xs ≡ true
is_cast t l xs zs us w u high s = base_casts t.base t.dimensions l xs w.0 zs us w.1 w.2 u high s

-- ---- what is seen as a cast begins with a type

past_test : (x y : Lexeme) (xs : List Lexeme) → ((n : ℕ) × Brackets n xs (past_brackets xs)) → (t u : Bool) → is_operator o.LeftBracket x.kind ≡ t
    → is_operator o.RightBracket y.kind ≡ u → (n : ℕ) × Brackets n (x ∷ y ∷ xs) (if t && u then past_brackets xs else x ∷ y ∷ xs)
past_test x y xs more true true t u =
    (suc more.0, (y ∷ xs, from_sees o.LeftBracket (x ∷ y ∷ xs) t, xs, from_sees o.RightBracket (y ∷ xs) u, more.1))
past_test x y xs more true false t u = (0, refl)
past_test x y xs more false u t v = (0, refl)

past_written : (xs : List Lexeme) → (n : ℕ) × Brackets n xs (past_brackets xs)
past_written [] = (0, refl)
past_written (x ∷ []) = (0, refl)
past_written (x ∷ y ∷ xs) =
    past_test x y xs (past_written xs) (is_operator o.LeftBracket x.kind) (is_operator o.RightBracket y.kind) refl refl

base_word : (x : Lexeme) (xs : List Lexeme) (s : Keyword) → x.kind ≡ k.Word s → begins_type_keyword s ≡ true → (b : BaseType) × IsBase b (x ∷ xs) xs
base_word x xs w.Int is h = (base.Int, (x.at, ap (λ kd. lexeme x.at kd ∷ xs) is))
base_word x xs w.Boolean is h = (base.Boolean, (x.at, ap (λ kd. lexeme x.at kd ∷ xs) is))
base_word x xs _ is h = absurd (cc)

base_seen : (x : Lexeme) (xs : List Lexeme) (kd : TokenKind) → x.kind ≡ kd → begins_type kd ≡ true → (b : BaseType) × IsBase b (x ∷ xs) xs
base_seen x xs (k.Ident y) is h = (base.Class (ident_at x.at y), ap (λ kd. lexeme x.at kd ∷ xs) is)
base_seen x xs (k.Word s) is h = base_word x xs s is h
base_seen x xs _ is h = absurd (cc)

close_by : (x y : Lexeme) (xs : List Lexeme) (t : Bool) → is_operator o.RightParen x.kind ≡ t → t && begins_plain y.kind ≡ true
    → (zs : List Lexeme) × Then (k.Op o.RightParen) (x ∷ y ∷ xs) zs × (sees_plain zs ≡ true)
close_by x y xs true t h = (y ∷ xs, from_sees o.RightParen (x ∷ y ∷ xs) t, h)
close_by x y xs false t h = absurd (cc)

close_seen : (xs : List Lexeme) → closes_cast xs ≡ true → (zs : List Lexeme) × Then (k.Op o.RightParen) xs zs × (sees_plain zs ≡ true)
close_seen [] h = absurd (cc)
close_seen (x ∷ []) h = absurd (cc)
close_seen (x ∷ y ∷ xs) h = close_by x y xs (is_operator o.RightParen x.kind) refl h

seen_by : (x : Lexeme) (xs : List Lexeme) (t : Bool) → begins_type x.kind ≡ t → t && closes_cast (past_brackets xs) ≡ true → BeginsCast (x ∷ xs)
seen_by x xs true t h =
    let b = base_seen x xs x.kind refl t in
    let n = past_written xs in
    let c = close_seen (past_brackets xs) h in
    (type_of b.0 n.0, past_brackets xs, (xs, b.1, n.1), c.0, c.1, c.2)
seen_by x xs false t h = absurd (cc)

cast_seen : (xs : List Lexeme) → casts xs ≡ true → BeginsCast xs
cast_seen [] h = absurd (cc)
cast_seen (x ∷ xs) h = seen_by x xs (begins_type x.kind) refl h

-- ---- and the other way round

plain_begins : (xs : List Lexeme) → sees_plain xs ≡ true → (x : Lexeme) × (ys : List Lexeme) × (xs ≡ x ∷ ys) × (begins_plain x.kind ≡ true)
plain_begins [] h = absurd (cc)
plain_begins (x ∷ xs) h = (x, xs, refl, h)

seen_base : (b : BaseType) (n : ℕ) (xs ys zs us : List Lexeme) → IsBase b xs ys → Brackets n ys zs → Then (k.Op o.RightParen) zs us → sees_plain us ≡ true
    → casts xs ≡ true
unfolding same_operator
seen_base base.Int n xs ys zs us v brackets t plain =
    let p = plain_begins us plain in rw (v.1, past n ys zs brackets (close_no_bracket zs us t), t.1, p.2, p.3) refl
seen_base base.Boolean n xs ys zs us v brackets t plain =
    let p = plain_begins us plain in rw (v.1, past n ys zs brackets (close_no_bracket zs us t), t.1, p.2, p.3) refl
seen_base (base.Class x) n xs ys zs us v brackets t plain =
    let p = plain_begins us plain in rw (v, past n ys zs brackets (close_no_bracket zs us t), t.1, p.2, p.3) refl

pub sees_casts : SeesCasts
sees_casts xs = (cast_seen xs, λ c. seen_base c.0.base c.0.dimensions xs c.2.0 c.1 c.3 c.2.1 c.2.2 c.4 c.5)
