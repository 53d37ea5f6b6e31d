-- Trees that begin with a token of their own are read.
use Rattle.std.proofs.Common.{◌≡◌, ℕ, suc, ◌+◌, ◌≤◌, max, List, ◌∷◌, Bool, true, false, Ok, refl, arith}
use Rattle.java_tokens.specs.declared.token.Keyword.TheVariants as w
use Rattle.java_tokens.specs.declared.token.Operator.TheVariants as o
use Rattle.java_tokens.specs.declared.token.TokenKind.TheVariants as k
use Rattle.token_reading.specs.declared.name.BaseType.{BaseType}
use Rattle.token_reading.specs.declared.name.BaseType.TheVariants as base
use Rattle.token_reading.specs.declared.name.Ident.{Ident}
use Rattle.token_reading.specs.declared.name.TypeTree.{TypeTree}
use Rattle.java_syntax.specs.declared.operator.UnaryOp.{UnaryOp}
use Rattle.java_syntax.specs.declared.operator.UnaryOp.TheVariants as unary
use Rattle.java_syntax.specs.declared.expression.Expr.{Expr}
use Rattle.java_syntax.specs.declared.expression.Expr.TheVariants as e
use Rattle.token_reading.specs.Lexeme.{Lexeme, lexeme, Then, same_operator, sees}
use Rattle.token_reading.specs.Types.{IsIdent, IsBase, IsType, Brackets, castable}
use Rattle.token_reading.specs.Height.{type_height}
use Rattle.token_reading.specs.ReadType.{pairs, type_tree}
use Rattle.java_syntax.specs.Exprs.{unary_sign, unary_level, truth, casts}
use Rattle.java_reading.specs.ReadExpr.{named, cast, parens, operand, super_call, instance, array, creation, prefix_operator, prefix, precedence, reading}
use Rattle.token_reading.proofs.Tests.{not_below}
use Rattle.token_reading.proofs.Lexemes.{sees_it, expect_it, ident_read, base_read, pairs_low, type_low}
use Rattle.token_reading.proofs.Found.{pairs_or, type_or}
use Rattle.token_reading.proofs.Steps.{Or, found, higher as over_limit}
use Rattle.java_reading.proofs.Casts.{close_no_bracket}
use Rattle.java_reading.proofs.Claims.{Done, done, over, Goes, goes, higher, ArgsDone, args_done, args_over}

-- ---- leaves

pub number_goes : (n b l at v : ℕ) (xs rest : List Lexeme) → xs ≡ lexeme at (k.Number v) ∷ rest → Goes (suc n) b l (e.Number at v) xs rest
unfolding reading precedence prefix
number_goes n b l at v xs rest is = goes 1 (suc b) (omega arith) (omega arith) (omega arith) (rw is refl)

pub text_goes : (n b l at : ℕ) (x : List ℕ) (xs rest : List Lexeme) → xs ≡ lexeme at (k.Text x) ∷ rest → Goes (suc n) b l (e.Text at x) xs rest
unfolding reading precedence prefix
text_goes n b l at x xs rest is = goes 1 (suc b) (omega arith) (omega arith) (omega arith) (rw is refl)

pub bool_goes : (n b l at : ℕ) (v : Bool) (xs rest : List Lexeme) → xs ≡ lexeme at (k.Word (truth v)) ∷ rest → Goes (suc n) b l (e.Bool at v) xs rest
unfolding reading precedence prefix
bool_goes n b l at true xs rest is = goes 1 (suc b) (omega arith) (omega arith) (omega arith) (rw is refl)
bool_goes n b l at false xs rest is = goes 1 (suc b) (omega arith) (omega arith) (omega arith) (rw is refl)

pub null_goes : (n b l at : ℕ) (xs rest : List Lexeme) → xs ≡ lexeme at (k.Word w.Null) ∷ rest → Goes (suc n) b l (e.Null at) xs rest
unfolding reading precedence prefix
null_goes n b l at xs rest is = goes 1 (suc b) (omega arith) (omega arith) (omega arith) (rw is refl)

pub this_goes : (n b l at : ℕ) (xs rest : List Lexeme) → xs ≡ lexeme at (k.Word w.This) ∷ rest → Goes (suc n) b l (e.This at) xs rest
unfolding reading precedence prefix
this_goes n b l at xs rest is = goes 1 (suc b) (omega arith) (omega arith) (omega arith) (rw is refl)

-- ---- names and calls

pub name_goes : (n b l : ℕ) (x : Ident) (xs rest : List Lexeme) → IsIdent x xs rest → sees o.LeftParen rest ≡ false → Goes (suc n) b l (e.Name x) xs rest
unfolding reading precedence prefix named
name_goes n b l x xs rest is other = goes 1 (suc b) (omega arith) (omega arith) (omega arith) (rw (is, other) refl)

pub call_goes : (n b l : ℕ) (x : Ident) (given : List Expr) (xs ys zs rest : List Lexeme) → IsIdent x xs ys
    → Then (k.Op o.LeftParen) ys zs → ArgsDone n b given zs rest → Goes (suc n) b l (e.Call x given) xs rest
unfolding reading precedence prefix named
call_goes n b l x given xs ys zs rest is t (args_done h hn hb r) =
    goes (h + 1) (suc b) (omega arith) (omega arith) (omega arith) (rw (is, t.1, sees_it o.LeftParen t.0 zs, r) refl)
call_goes n b l x given xs ys zs rest is t (args_over hn r) = higher (omega arith) (rw (is, t.1, sees_it o.LeftParen t.0 zs, r) refl)

pub super_goes : (n b l at : ℕ) (x : Ident) (given : List Expr) (xs ys zs us vs rest : List Lexeme) → xs ≡ lexeme at (k.Word w.Super) ∷ ys
    → Then (k.Op o.Dot) ys zs → IsIdent x zs us → Then (k.Op o.LeftParen) us vs → ArgsDone n b given vs rest
    → Goes (suc n) b l (e.Super at x given) xs rest
unfolding reading precedence prefix super_call
super_goes n b l at x given xs ys zs us vs rest is t u v (args_done h hn hb r) =
    goes (h + 1) (suc b) (omega arith) (omega arith) (omega arith)
    (rw (is, t.1, expect_it o.Dot t.0 zs, ident_read x zs us u, v.1, expect_it o.LeftParen v.0 vs, r) refl)
super_goes n b l at x given xs ys zs us vs rest is t u v (args_over hn r) =
    higher (omega arith) (rw (is, t.1, expect_it o.Dot t.0 zs, ident_read x zs us u, v.1, expect_it o.LeftParen v.0 vs, r) refl)

-- ---- creations

pub new_goes : (n b l at : ℕ) (x : Ident) (given : List Expr) (xs ys zs us rest : List Lexeme) → xs ≡ lexeme at (k.Word w.New) ∷ ys
    → IsIdent x ys zs → Then (k.Op o.LeftParen) zs us → ArgsDone n b given us rest → Goes (suc n) b l (e.New at x given) xs rest
unfolding reading precedence prefix creation instance
new_goes n b l at x given xs ys zs us rest is u t (args_done h hn hb r) =
    goes (h + 1) (suc b) (omega arith) (omega arith) (omega arith)
    (rw (is, base_read (base.Class x) ys zs u, t.1, sees_it o.LeftParen t.0 us, expect_it o.LeftParen t.0 us, r) refl)
new_goes n b l at x given xs ys zs us rest is u t (args_over hn r) =
    higher (omega arith) (rw (is, base_read (base.Class x) ys zs u, t.1, sees_it o.LeftParen t.0 us, expect_it o.LeftParen t.0 us, r) refl)

bracket_no_paren : (at : ℕ) (xs : List Lexeme) → sees o.LeftParen (lexeme at (k.Op o.LeftBracket) ∷ xs) ≡ false
unfolding same_operator
bracket_no_paren at xs = refl

-- the base of an array's type, as `new` reads it
array_base : (n at : ℕ) (b : BaseType) (ys zs us : List Lexeme) → IsBase b ys zs → Then (k.Op o.LeftBracket) zs us
    → creation n (reading n) at ys ≡ array n (reading n) at b zs
unfolding creation
array_base n at base.Int ys zs us w t = rw (base_read base.Int ys zs w) refl
array_base n at base.Boolean ys zs us w t = rw (base_read base.Boolean ys zs w) refl
array_base n at (base.Class x) ys zs us w t = rw (base_read (base.Class x) ys zs w, t.1, bracket_no_paren t.0 us) refl

array_by : (n b l at : ℕ) (c : BaseType) (size : Expr) (d : ℕ) (xs ys zs us vs ws rest : List Lexeme) → xs ≡ lexeme at (k.Word w.New) ∷ ys
    → IsBase c ys zs → Then (k.Op o.LeftBracket) zs us → Done n b 1 size us vs → Then (k.Op o.RightBracket) vs ws → d ≤ n
    → Or n b (pairs b ws) (Ok (d, rest)) → Goes (suc n) b l (e.NewArray at c size d) xs rest
unfolding reading precedence prefix array
array_by n b l at c size d xs ys zs us vs ws rest is w t (done h hn hb r) u fit (found v) =
    goes (max d h + 1) (suc b) (omega arith) (omega (arith, pairs_low b d ws rest v)) (omega arith)
    (rw (is, array_base b at c ys zs us w t, t.1, expect_it o.LeftBracket t.0 us, r, u.1, expect_it o.RightBracket u.0 ws, v) refl)
array_by n b l at c size d xs ys zs us vs ws rest is w t (done h hn hb r) u fit (over_limit up v) =
    higher (omega arith)
    (rw (is, array_base b at c ys zs us w t, t.1, expect_it o.LeftBracket t.0 us, r, u.1, expect_it o.RightBracket u.0 ws, v) refl)
array_by n b l at c size d xs ys zs us vs ws rest is w t (over hn r) u fit v =
    higher (omega arith) (rw (is, array_base b at c ys zs us w t, t.1, expect_it o.LeftBracket t.0 us, r) refl)

pub array_goes : (n b l at : ℕ) (c : BaseType) (size : Expr) (d : ℕ) (xs ys zs us vs ws rest : List Lexeme) → xs ≡ lexeme at (k.Word w.New) ∷ ys
    → IsBase c ys zs → Then (k.Op o.LeftBracket) zs us → Done n b 1 size us vs → Then (k.Op o.RightBracket) vs ws → Brackets d ws rest
    → sees o.LeftBracket rest ≡ false → d ≤ n → Goes (suc n) b l (e.NewArray at c size d) xs rest
array_goes n b l at c size d xs ys zs us vs ws rest is w t s u v shut fit =
    array_by n b l at c size d xs ys zs us vs ws rest is w t s u fit (pairs_or n b d ws rest v shut fit)

-- ---- operators before an operand

-- an operator's sign is read as that operator
sign_read : (n l at : ℕ) (op : UnaryOp) (ys : List Lexeme) → prefix_operator n (reading n) l at (unary_sign op) ys ≡ operand (reading n) l at op ys
sign_read n l at unary.Plus ys = refl
sign_read n l at unary.Minus ys = refl
sign_read n l at unary.Not ys = refl
sign_read n l at unary.Complement ys = refl

pub unary_goes : (n b l at : ℕ) (op : UnaryOp) (a : Expr) (xs ys rest : List Lexeme) → xs ≡ lexeme at (k.Op (unary_sign op)) ∷ ys → l ≤ unary_level op
    → Done n b 12 a ys rest → Goes (suc n) b l (e.Unary at op a) xs rest
unfolding reading precedence prefix operand
unary_goes n b l at op a xs ys rest is low (done h hn hb r) =
    goes (h + 1) (suc b) (omega arith) (omega arith) (omega arith) (rw (is, sign_read b l at op ys, not_below (unary_level op) l low, r) refl)
unary_goes n b l at op a xs ys rest is low (over hn r) =
    higher (omega arith) (rw (is, sign_read b l at op ys, not_below (unary_level op) l low, r) refl)

-- ---- parentheses

pub paren_goes : (n b l at : ℕ) (a : Expr) (xs ys zs rest : List Lexeme) → xs ≡ lexeme at (k.Op o.LeftParen) ∷ ys → casts ys ≡ false
    → Done n b 1 a ys zs → Then (k.Op o.RightParen) zs rest → Goes (suc n) b l (e.Paren at a) xs rest
unfolding reading precedence prefix parens
paren_goes n b l at a xs ys zs rest is none (done h hn hb r) t =
    goes (h + 1) (suc b) (omega arith) (omega arith) (omega arith) (rw (is, none, r, t.1, expect_it o.RightParen t.0 rest) refl)
paren_goes n b l at a xs ys zs rest is none (over hn r) t = higher (omega arith) (rw (is, none, r) refl)

cast_by : (n b l at : ℕ) (t : TypeTree) (a : Expr) (xs ys zs us rest : List Lexeme) → xs ≡ lexeme at (k.Op o.LeftParen) ∷ ys → casts ys ≡ true
    → castable t ≡ true → Then (k.Op o.RightParen) zs us → Done n b 13 a us rest → type_height t ≤ n → Or n b (type_tree b ys) (Ok (t, zs))
    → Goes (suc n) b l (e.Cast at t a) xs rest
unfolding reading precedence prefix parens cast
cast_by n b l at t a xs ys zs us rest is some may u (done h hn hb r) fit (found v) =
    goes (max (type_height t) h + 1) (suc b) (omega arith) (omega (arith, type_low b t ys zs v)) (omega arith)
    (rw (is, some, v, may, u.1, expect_it o.RightParen u.0 us, r) refl)
cast_by n b l at t a xs ys zs us rest is some may u (over hn r) fit (found v) =
    higher (omega arith) (rw (is, some, v, may, u.1, expect_it o.RightParen u.0 us, r) refl)
cast_by n b l at t a xs ys zs us rest is some may u s fit (over_limit up v) = higher (omega arith) (rw (is, some, v) refl)

pub cast_goes : (n b l at : ℕ) (t : TypeTree) (a : Expr) (xs ys zs us rest : List Lexeme) → xs ≡ lexeme at (k.Op o.LeftParen) ∷ ys → casts ys ≡ true
    → IsType t ys zs → castable t ≡ true → Then (k.Op o.RightParen) zs us → Done n b 13 a us rest → type_height t ≤ n
    → Goes (suc n) b l (e.Cast at t a) xs rest
cast_goes n b l at t a xs ys zs us rest is some w may u s fit =
    cast_by n b l at t a xs ys zs us rest is some may u s fit (type_or n b t ys zs w (close_no_bracket zs us u) fit)
