-- What is read of names, operators before an operand and parentheses is written.
use Rattle.std.proofs.Common.{◌≡◌, ℕ, suc, ◌+◌, ◌≤◌, ◌<◌, max, nat_lt, if◌then◌else◌, List, ◌∷◌, length, Bool, true, false, Ok, Err, refl, ap, arith}
use Rattle.java_tokens.specs.declared.token.Operator.TheVariants as o
use Rattle.java_tokens.specs.declared.token.TokenKind.TheVariants as k
use Rattle.token_reading.specs.declared.name.Ident.{Ident}
use Rattle.token_reading.specs.declared.name.TypeTree.{TypeTree}
use Rattle.java_syntax.specs.declared.operator.UnaryOp.{UnaryOp}
use Rattle.java_syntax.specs.declared.expression.Expr.TheVariants as e
use Rattle.java_syntax.specs.declared.expression.Expr.TheVariants.{rolls-Name, rolls-Call, rolls-Paren, rolls-Unary, rolls-Cast}
use Rattle.java_syntax.specs.declared.expression.Expr.TheOpen.{Expr-F}
use Rattle.token_reading.specs.Lexeme.{Lexeme, lexeme, Then, sees}
use Rattle.token_reading.specs.Types.{IsIdent, castable}
use Rattle.token_reading.specs.Height.{type_height}
use Rattle.java_syntax.specs.Exprs.{unary_sign, unary_level, casts}
use Rattle.token_reading.specs.Outcome.{no_tree, too_high, Outcome, Parser, ◌>>=◌}
use Rattle.token_reading.specs.ReadType.{next, expect, type_tree}
use Rattle.java_reading.specs.ReadExpr.{Tall, Talls, args, named, cast, parens, operand}
use Rattle.token_reading.proofs.Tests.{from_not_below}
use Rattle.token_reading.proofs.Lexemes.{then_length, type_length, from_sees, Limited, Expected, expected, TypeWithin, type_written}
use Rattle.java_reading.proofs.Levels.{follows_most, name_stop}
use Rattle.java_reading.proofs.Growing.{grown}
use Rattle.java_reading.proofs.Claims.{Written, Sound, Left, ArgsSound}
use Rattle.java_reading.proofs.Written.{wrote, leaf}
use Rattle.java_reading.proofs.SoundArgs.{args_sound}

-- `xs` begins with the token, and `ys` stands after it
module _ (b : ℕ) (part : ℕ → Parser Tall) (sound : (l : ℕ) (xs : List Lexeme) → 1 ≤ l → l ≤ 13 → Sound b l xs (part l xs)) where
  -- ---- names and calls

  call_left : (l : ℕ) (x : Ident) (xs ys zs : List Lexeme) → l ≤ 13 → IsIdent x xs ys → Then (k.Op o.LeftParen) ys zs
      → (r : Outcome Talls) → ArgsSound b zs r → Left (suc b) l xs (r >>= (λ g us. Ok ((e.Call x g.0, g.1 + 1), us)))
  call_left l x xs ys zs high is t (Ok p) s =
      wrote (suc b) p.0.1 (p.0.1 + 1) (Expr-F.Call x p.0.0) (e.Call x p.0.0) l xs p.1 (rolls-Call x p.0.0) (omega arith) (omega arith) (omega (arith, s.1))
      (omega (arith, ap length is, then_length _ ys zs t, s.2)) (omega arith) (follows_most p.1) (ys, is, zs, t, s.0)
  call_left l x xs ys zs high is t (Err no_tree) s = tt
  call_left l x xs ys zs high is t (Err too_high) s = omega (arith, ap length is, then_length _ ys zs t)

  named_test : (l : ℕ) (x : Ident) (xs ys : List Lexeme) → l ≤ 13 → IsIdent x xs ys → (t : Bool) → sees o.LeftParen ys ≡ t
      → Left (suc b) l xs (if t then (args part (next ys) >>= (λ g us. Ok ((e.Call x g.0, g.1 + 1), us))) else Ok ((e.Name x, 1), ys))
  named_test l x xs ys high is true t =
      call_left l x xs ys (next ys) high is (from_sees o.LeftParen ys t) (args part (next ys)) (args_sound b part sound (next ys))
  named_test l x xs ys high is false t = leaf b (Expr-F.Name x) (e.Name x) _ l xs ys (rolls-Name x) (omega arith) is (omega arith) (name_stop ys t) is

  pub named_left : (l : ℕ) (x : Ident) (xs ys : List Lexeme) → l ≤ 13 → IsIdent x xs ys → Left (suc b) l xs (named part x ys)
  unfolding named
  named_left l x xs ys high is = named_test l x xs ys high is (sees o.LeftParen ys) refl

  -- ---- operators before an operand

  operand_by : (l at : ℕ) (op : UnaryOp) (xs ys : List Lexeme) → xs ≡ lexeme at (k.Op (unary_sign op)) ∷ ys → (t : Bool) → nat_lt (unary_level op) l ≡ t
      → (r : Outcome Tall) → Sound b 12 ys r
      → Left (suc b) l xs (if t then Err no_tree else (r >>= (λ a zs. Ok ((e.Unary at op a.0, a.1 + 1), zs))))
  operand_by l at op xs ys is true t r s = tt
  operand_by l at op xs ys is false t (Ok p) s =
      wrote (suc b) p.0.1 (p.0.1 + 1) (Expr-F.Unary at op p.0.0) (e.Unary at op p.0.0) l xs p.1 (rolls-Unary at op p.0.0) (omega arith) (omega arith) (omega (arith, s.0.low))
      (omega (arith, ap length is, s.0.taken)) (from_not_below (unary_level op) l t) (omega (arith, s.1)) (ys, is, s.0.tree)
  operand_by l at op xs ys is false t (Err no_tree) s = tt
  operand_by l at op xs ys is false t (Err too_high) s = omega (arith, ap length is)

  pub operand_left : (l at : ℕ) (op : UnaryOp) (xs ys : List Lexeme) → xs ≡ lexeme at (k.Op (unary_sign op)) ∷ ys → Left (suc b) l xs (operand part l at op ys)
  unfolding operand
  operand_left l at op xs ys is = operand_by l at op xs ys is (nat_lt (unary_level op) l) refl (part 12 ys) (sound 12 ys (omega arith) (omega arith))

  -- ---- casts

  cast_operand : (l at : ℕ) (t : TypeTree) (xs ys zs us : List Lexeme) → l ≤ 13 → xs ≡ lexeme at (k.Op o.LeftParen) ∷ ys → TypeWithin b t ys zs
      → castable t ≡ true → Then (k.Op o.RightParen) zs us → (r : Outcome Tall) → Sound b 13 us r
      → Left (suc b) l xs (r >>= (λ a vs. Ok ((e.Cast at t a.0, max (type_height t) a.1 + 1), vs)))
  cast_operand l at t xs ys zs us high is w may u (Ok p) s =
      let h = max (type_height t) p.0.1 in
      wrote (suc b) h (h + 1) (Expr-F.Cast at t p.0.0) (e.Cast at t p.0.0) l xs p.1 (rolls-Cast at t p.0.0) (omega arith) (omega arith)
      (omega (arith, w.1, s.0.low))
      (omega (arith, ap length is, type_length t ys zs w.0, then_length _ zs us u, s.0.taken)) high (omega (arith, s.1))
      (ys, is, zs, w.0, may, us, u, grown p.0.1 h (omega arith) p.0.0 13 us p.1 s.0.tree)
  cast_operand l at t xs ys zs us high is w may u (Err no_tree) s = tt
  cast_operand l at t xs ys zs us high is w may u (Err too_high) s = omega (arith, ap length is, type_length t ys zs w.0, then_length _ zs us u)

  cast_close : (l at : ℕ) (t : TypeTree) (xs ys zs : List Lexeme) → l ≤ 13 → xs ≡ lexeme at (k.Op o.LeftParen) ∷ ys → TypeWithin b t ys zs
      → castable t ≡ true → (r : Outcome (Unit {0})) → Expected o.RightParen zs r
      → Left (suc b) l xs (r >>= (λ _ us. part 13 us >>= (λ a vs. Ok ((e.Cast at t a.0, max (type_height t) a.1 + 1), vs))))
  cast_close l at t xs ys zs high is w may (Ok p) u = cast_operand l at t xs ys zs p.1 high is w may u (part 13 p.1) (sound 13 p.1 (omega arith) (omega arith))
  cast_close l at t xs ys zs high is w may (Err no_tree) u = tt
  cast_close l at t xs ys zs high is w may (Err too_high) u = absurd u

  cast_test : (l at : ℕ) (t : TypeTree) (xs ys zs : List Lexeme) → l ≤ 13 → xs ≡ lexeme at (k.Op o.LeftParen) ∷ ys → TypeWithin b t ys zs
      → (may : Bool) → castable t ≡ may
      → Left (suc b) l xs (if may then
      (expect o.RightParen zs >>= (λ _ us. part 13 us >>= (λ a vs. Ok ((e.Cast at t a.0, max (type_height t) a.1 + 1), vs)))) else Err no_tree)
  cast_test l at t xs ys zs high is w true may = cast_close l at t xs ys zs high is w may (expect o.RightParen zs) (expected o.RightParen zs)
  cast_test l at t xs ys zs high is w false may = tt

  cast_left : (l at : ℕ) (xs ys : List Lexeme) → l ≤ 13 → xs ≡ lexeme at (k.Op o.LeftParen) ∷ ys → (r : Outcome TypeTree)
      → Limited (TypeWithin b) (b < length ys) ys r
      → Left (suc b) l xs (r >>= (λ t zs. if castable t then
      (expect o.RightParen zs >>= (λ _ us. part 13 us >>= (λ a vs. Ok ((e.Cast at t a.0, max (type_height t) a.1 + 1), vs)))) else Err no_tree))
  cast_left l at xs ys high is (Ok p) w = cast_test l at p.0 xs ys p.1 high is w (castable p.0) refl
  cast_left l at xs ys high is (Err no_tree) w = tt
  cast_left l at xs ys high is (Err too_high) w = omega (arith, ap length is)

  -- ---- parentheses

  close_left : (l at : ℕ) (xs ys zs : List Lexeme) (a : Tall) → l ≤ 13 → xs ≡ lexeme at (k.Op o.LeftParen) ∷ ys → casts ys ≡ false → Written b 1 ys a zs
      → (r : Outcome (Unit {0})) → Expected o.RightParen zs r → Left (suc b) l xs (r >>= (λ _ us. Ok ((e.Paren at a.0, a.1 + 1), us)))
  close_left l at xs ys zs a high is plain w (Ok p) t =
      wrote (suc b) a.1 (a.1 + 1) (Expr-F.Paren at a.0) (e.Paren at a.0) l xs p.1 (rolls-Paren at a.0) (omega arith) (omega arith) (omega (arith, w.low))
      (omega (arith, ap length is, w.taken, then_length _ zs p.1 t)) (omega arith) (follows_most p.1) (ys, is, plain, zs, w.tree, t)
  close_left l at xs ys zs a high is plain w (Err no_tree) t = tt
  close_left l at xs ys zs a high is plain w (Err too_high) t = absurd t

  paren_left : (l at : ℕ) (xs ys : List Lexeme) → l ≤ 13 → xs ≡ lexeme at (k.Op o.LeftParen) ∷ ys → casts ys ≡ false → (r : Outcome Tall) → Sound b 1 ys r
      → Left (suc b) l xs (r >>= (λ a zs. expect o.RightParen zs >>= (λ _ us. Ok ((e.Paren at a.0, a.1 + 1), us))))
  paren_left l at xs ys high is plain (Ok p) s = close_left l at xs ys p.1 p.0 high is plain s.0 (expect o.RightParen p.1) (expected o.RightParen p.1)
  paren_left l at xs ys high is plain (Err no_tree) s = tt
  paren_left l at xs ys high is plain (Err too_high) s = omega (arith, ap length is)

  parens_test : (l at : ℕ) (xs ys : List Lexeme) → l ≤ 13 → xs ≡ lexeme at (k.Op o.LeftParen) ∷ ys → (t : Bool) → casts ys ≡ t
      → Left (suc b) l xs (if t then cast b part at ys else (part 1 ys >>= (λ a zs. expect o.RightParen zs >>= (λ _ us. Ok ((e.Paren at a.0, a.1 + 1), us)))))
  unfolding cast
  parens_test l at xs ys high is true t = cast_left l at xs ys high is (type_tree b ys) (type_written b ys)
  parens_test l at xs ys high is false t = paren_left l at xs ys high is t (part 1 ys) (sound 1 ys (omega arith) (omega arith))

  pub parens_left : (l at : ℕ) (xs ys : List Lexeme) → l ≤ 13 → xs ≡ lexeme at (k.Op o.LeftParen) ∷ ys → Left (suc b) l xs (parens b part at ys)
  unfolding parens
  parens_left l at xs ys high is = parens_test l at xs ys high is (casts ys) refl
