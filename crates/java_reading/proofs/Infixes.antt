-- Trees that begin with an operand are read.
use Rattle.std.proofs.Common.{◌≡◌, ℕ, zero, suc, ◌+◌, ◌≤◌, ◌<◌, max, nat_lt, List, Bool, true, false, Ok, Err, refl, ◌∙◌, arith}
use Rattle.java_tokens.specs.declared.token.Keyword.TheVariants as w
use Rattle.java_tokens.specs.declared.token.Operator.TheVariants as o
use Rattle.java_tokens.specs.declared.token.TokenKind.{TokenKind}
use Rattle.java_tokens.specs.declared.token.TokenKind.TheVariants as k
use Rattle.token_reading.specs.declared.name.Ident.{Ident}
use Rattle.token_reading.specs.declared.name.TypeTree.{TypeTree}
use Rattle.java_syntax.specs.declared.operator.BinaryOp.{BinaryOp}
use Rattle.java_syntax.specs.declared.operator.BinaryOp.TheVariants as binary
use Rattle.java_syntax.specs.declared.expression.Expr.{Expr}
use Rattle.java_syntax.specs.declared.expression.Expr.TheVariants as e
use Rattle.token_reading.specs.Lexeme.{Lexeme, Then, sees}
use Rattle.token_reading.specs.Types.{IsIdent, IsType}
use Rattle.token_reading.specs.Height.{type_height}
use Rattle.token_reading.specs.ReadType.{type_tree}
use Rattle.java_syntax.specs.Exprs.{binary_sign, binary_level}
use Rattle.java_reading.specs.declared.infix.Infix.TheVariants as i
use Rattle.token_reading.specs.Outcome.{too_high, Outcome}
use Rattle.java_reading.specs.ReadExpr.{Tall, infix_operator, infix_of, binds, follows, behind, climb, operated, instance_of, conditional, member, element, reading}
use Rattle.token_reading.proofs.Tests.{not_below, from_below, from_not_below}
use Rattle.token_reading.proofs.Lexemes.{sees_it, expect_it, ident_read, type_low}
use Rattle.token_reading.proofs.Found.{type_or}
use Rattle.token_reading.proofs.Steps.{Or, found, higher as over_limit}
use Rattle.java_reading.proofs.Levels.{looser}
use Rattle.java_reading.proofs.Claims.{Done, done, over, Goes, goes, higher, ArgsDone, args_done, args_over}

-- What reading after an operand of height h comes to.
pub data Grows (n b h : ℕ) (r : Outcome Tall) (new : Expr) (rest : List Lexeme) : Type 0 where
  grows : (h' : ℕ) → h < h' → h' ≤ suc n → h' ≤ suc b → r ≡ Ok ((new, h'), rest) → Grows n b h r new rest
  outgrows : b < n → r ≡ Err too_high → Grows n b h r new rest

turned : (n b l : ℕ) (a new : Expr) (kd : TokenKind) (xs ys zs rest : List Lexeme) → l ≤ binds (infix_of kd)
    → (h fuel : ℕ) → h ≤ n → h ≤ suc b → suc b < fuel + h → reading (suc b) l xs ≡ climb b (reading b) l fuel (a, h) ys
    → Then kd ys zs
    → ((h : ℕ) → h ≤ n → h ≤ b → Grows n b h (behind b (reading b) (a, h) (infix_of kd) zs) new rest)
    → (lower : Bool) → nat_lt h (suc b) ≡ lower → Goes (suc n) b l new xs rest
unfolding climb
turned n b l a new kd xs ys zs rest low h zero hn hb hf r t go lower test = absurd (omega arith)
turned n b l a new kd xs ys zs rest low h (suc fuel) hn hb hf r t go false test =
    higher (let no = from_not_below h (suc b) test in omega arith)
    (r ∙ rw (t.1, not_below (binds (infix_of kd)) l low, test) refl)
turned n b l a new kd xs ys zs rest low h (suc fuel) hn hb hf r t go true test =
    let yes = from_below h (suc b) test in
    elim (go h hn (omega arith)) [
      | grows h' more hn' hb' r' ↦ goes h' fuel hn' hb' (omega arith) (r ∙ rw (t.1, not_below (binds (infix_of kd)) l low, test, r') refl)
      | outgrows hn' r' ↦ higher (omega arith) (r ∙ rw (t.1, not_below (binds (infix_of kd)) l low, test, r') refl)
    ]

-- One more turn, by a token that binds as tightly as the level.
turn : (n b l : ℕ) (a new : Expr) (kd : TokenKind) (xs ys zs rest : List Lexeme) → l ≤ binds (infix_of kd)
    → Goes n b l a xs ys → Then kd ys zs
    → ((h : ℕ) → h ≤ n → h ≤ b → Grows n b h (behind b (reading b) (a, h) (infix_of kd) zs) new rest)
    → Goes (suc n) b l new xs rest
turn n b l a new kd xs ys zs rest low (goes h fuel hn hb hf r) t go = turned n b l a new kd xs ys zs rest low h fuel hn hb hf r t go (nat_lt h (suc b)) refl
turn n b l a new kd xs ys zs rest low (higher hn r) t go = higher (omega arith) r

-- ---- operators

pub infix_sign : (op : BinaryOp) → infix_operator (binary_sign op) ≡ i.Binary op
infix_sign binary.Or = refl
infix_sign _ = refl

binary_grows : (n b h : ℕ) (op : BinaryOp) (a c : Expr) (zs rest : List Lexeme) → h ≤ n → h ≤ b → Done n b (binary_level op + 1) c zs rest
    → Grows n b h (operated (reading b) (a, h) op zs) (e.Binary op a c) rest
unfolding operated
binary_grows n b h op a c zs rest hn hb (done h' hn' hb' r) = grows (max h h' + 1) (omega arith) (omega arith) (omega arith) (rw r refl)
binary_grows n b h op a c zs rest hn hb (over hn' r) = outgrows hn' (rw r refl)

pub binary_goes : (n b l : ℕ) (op : BinaryOp) (a c : Expr) (xs ys zs rest : List Lexeme) → l ≤ binary_level op
    → Goes n b l a xs ys → Then (k.Op (binary_sign op)) ys zs → Done n b (binary_level op + 1) c zs rest
    → Goes (suc n) b l (e.Binary op a c) xs rest
binary_goes n b l op a c xs ys zs rest low left t right =
    turn n b l a (e.Binary op a c) (k.Op (binary_sign op)) xs ys zs rest (rw (infix_sign op) low) left t
    (λ h hn hb. rw (infix_sign op) (binary_grows n b h op a c zs rest hn hb right))

test_by : (n b h : ℕ) (a : Expr) (t : TypeTree) (zs rest : List Lexeme) → h ≤ n → h ≤ b → type_height t ≤ n → follows rest ≤ 8
    → Or n b (type_tree b zs) (Ok (t, rest)) → Grows n b h (instance_of b (reading b) (a, h) zs) (e.InstanceOf a t) rest
unfolding instance_of
test_by n b h a t zs rest hn hb fit loose (found v) =
    grows (max (type_height t) h + 1) (omega arith) (omega arith) (omega (arith, type_low b t zs rest v))
    (rw (v, not_below 8 (follows rest) loose) refl)
test_by n b h a t zs rest hn hb fit loose (over_limit up v) = outgrows up (rw v refl)

pub test_goes : (n b l : ℕ) (a : Expr) (t : TypeTree) (xs ys zs rest : List Lexeme) → l ≤ 8
    → Goes n b l a xs ys → Then (k.Word w.Instanceof) ys zs → IsType t zs rest → follows rest ≤ 8 → type_height t ≤ n
    → Goes (suc n) b l (e.InstanceOf a t) xs rest
test_goes n b l a t xs ys zs rest low left u v loose fit =
    turn n b l a (e.InstanceOf a t) (k.Word w.Instanceof) xs ys zs rest low left u
    (λ h hn hb. test_by n b h a t zs rest hn hb fit loose (type_or n b t zs rest v (looser o.LeftBracket rest (omega arith)) fit))

conditional_grows : (n b h : ℕ) (c x y : Expr) (zs us vs rest : List Lexeme) → h ≤ n → h ≤ b
    → Done n b 1 x zs us → Then (k.Op o.Colon) us vs → Done n b 1 y vs rest
    → Grows n b h (conditional (reading b) (c, h) zs) (e.Conditional c x y) rest
unfolding conditional
conditional_grows n b h c x y zs us vs rest hn hb (done h' hn' hb' r) t (done h'' hn'' hb'' r') =
    grows (max h (max h' h'') + 1) (omega arith) (omega arith) (omega arith) (rw (r, t.1, expect_it o.Colon t.0 vs, r') refl)
conditional_grows n b h c x y zs us vs rest hn hb (done h' hn' hb' r) t (over hn'' r') =
    outgrows hn'' (rw (r, t.1, expect_it o.Colon t.0 vs, r') refl)
conditional_grows n b h c x y zs us vs rest hn hb (over hn' r) t last = outgrows hn' (rw r refl)

pub conditional_goes : (n b l : ℕ) (c x y : Expr) (xs ys zs us vs rest : List Lexeme) → l ≤ 1
    → Goes n b l c xs ys → Then (k.Op o.Question) ys zs → Done n b 1 x zs us → Then (k.Op o.Colon) us vs → Done n b 1 y vs rest
    → Goes (suc n) b l (e.Conditional c x y) xs rest
conditional_goes n b l c x y xs ys zs us vs rest low left t mid s last =
    turn n b l c (e.Conditional c x y) (k.Op o.Question) xs ys zs rest low left t
    (λ h hn hb. conditional_grows n b h c x y zs us vs rest hn hb mid s last)

-- ---- suffixes

element_grows : (n b h : ℕ) (a i : Expr) (zs us rest : List Lexeme) → h ≤ n → h ≤ b
    → Done n b 1 i zs us → Then (k.Op o.RightBracket) us rest → Grows n b h (element (reading b) (a, h) zs) (e.Element a i) rest
unfolding element
element_grows n b h a i zs us rest hn hb (done h' hn' hb' r) t =
    grows (max h h' + 1) (omega arith) (omega arith) (omega arith) (rw (r, t.1, expect_it o.RightBracket t.0 rest) refl)
element_grows n b h a i zs us rest hn hb (over hn' r) t = outgrows hn' (rw r refl)

pub element_goes : (n b l : ℕ) (a i : Expr) (xs ys zs us rest : List Lexeme) → l ≤ 14
    → Goes n b l a xs ys → Then (k.Op o.LeftBracket) ys zs → Done n b 1 i zs us → Then (k.Op o.RightBracket) us rest
    → Goes (suc n) b l (e.Element a i) xs rest
element_goes n b l a i xs ys zs us rest low left t inner s =
    turn n b l a (e.Element a i) (k.Op o.LeftBracket) xs ys zs rest low left t
    (λ h hn hb. element_grows n b h a i zs us rest hn hb inner s)

field_grows : (n b h : ℕ) (a : Expr) (x : Ident) (zs rest : List Lexeme) → h ≤ n → h ≤ b
    → IsIdent x zs rest → sees o.LeftParen rest ≡ false → Grows n b h (member (reading b) (a, h) zs) (e.Field a x) rest
unfolding member
field_grows n b h a x zs rest hn hb w other =
    grows (h + 1) (omega arith) (omega arith) (omega arith) (rw (ident_read x zs rest w, other) refl)

pub field_goes : (n b l : ℕ) (a : Expr) (x : Ident) (xs ys zs rest : List Lexeme) → l ≤ 14
    → Goes n b l a xs ys → Then (k.Op o.Dot) ys zs → IsIdent x zs rest → sees o.LeftParen rest ≡ false
    → Goes (suc n) b l (e.Field a x) xs rest
field_goes n b l a x xs ys zs rest low left t w other =
    turn n b l a (e.Field a x) (k.Op o.Dot) xs ys zs rest low left t (λ h hn hb. field_grows n b h a x zs rest hn hb w other)

method_grows : (n b h : ℕ) (a : Expr) (x : Ident) (given : List Expr) (zs us vs rest : List Lexeme) → h ≤ n → h ≤ b
    → IsIdent x zs us → Then (k.Op o.LeftParen) us vs → ArgsDone n b given vs rest
    → Grows n b h (member (reading b) (a, h) zs) (e.Method a x given) rest
unfolding member
method_grows n b h a x given zs us vs rest hn hb w s (args_done h' hn' hb' r) =
    grows (max h h' + 1) (omega arith) (omega arith) (omega arith) (rw (ident_read x zs us w, s.1, sees_it o.LeftParen s.0 vs, r) refl)
method_grows n b h a x given zs us vs rest hn hb w s (args_over hn' r) =
    outgrows hn' (rw (ident_read x zs us w, s.1, sees_it o.LeftParen s.0 vs, r) refl)

pub method_goes : (n b l : ℕ) (a : Expr) (x : Ident) (given : List Expr) (xs ys zs us vs rest : List Lexeme) → l ≤ 14
    → Goes n b l a xs ys → Then (k.Op o.Dot) ys zs → IsIdent x zs us → Then (k.Op o.LeftParen) us vs → ArgsDone n b given vs rest
    → Goes (suc n) b l (e.Method a x given) xs rest
method_goes n b l a x given xs ys zs us vs rest low left t w s r =
    turn n b l a (e.Method a x given) (k.Op o.Dot) xs ys zs rest low left t
    (λ h hn hb. method_grows n b h a x given zs us vs rest hn hb w s r)
