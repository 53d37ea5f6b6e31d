-- What is read is written.
use Rattle.std.proofs.Common.{◌≡◌, ℕ, zero, suc, ◌+◌, ◌≤◌, ◌<◌, nat_lt, if◌then◌else◌, List, [], ◌∷◌, length, Bool, true, false, Ok, Err, refl, arith}
use Rattle.java_tokens.specs.declared.token.Keyword.{Keyword}
use Rattle.java_tokens.specs.declared.token.Keyword.TheVariants as w
use Rattle.java_tokens.specs.declared.token.Operator.{Operator}
use Rattle.java_tokens.specs.declared.token.Operator.TheVariants as o
use Rattle.java_tokens.specs.declared.token.TokenKind.{TokenKind}
use Rattle.java_tokens.specs.declared.token.TokenKind.TheVariants as k
use Rattle.java_syntax.specs.declared.operator.UnaryOp.TheVariants as unary
use Rattle.java_syntax.specs.declared.expression.Expr.TheVariants as e
use Rattle.java_syntax.specs.declared.expression.Expr.TheVariants.{rolls-Number, rolls-Text, rolls-Bool, rolls-Null, rolls-This}
use Rattle.java_syntax.specs.declared.expression.Expr.TheOpen.{Expr-F}
use Rattle.token_reading.specs.Lexeme.{Lexeme, lexeme}
use Rattle.token_reading.specs.Outcome.{no_tree, too_high, Outcome, Parser, ◌>>=◌}
use Rattle.token_reading.specs.ReadType.{next, none_fits, ident_at}
use Rattle.java_reading.specs.ReadExpr.{Tall, first_infix, follows, prefix_operator, prefix_keyword, prefix_by, prefix, behind, climb, precedence, reading}
use Rattle.token_reading.proofs.Tests.{from_below, from_not_below}
use Rattle.java_reading.proofs.Levels.{follows_most}
use Rattle.java_reading.proofs.Growing.{some_height}
use Rattle.java_reading.proofs.Claims.{Written, Left, Sound, Higher}
use Rattle.java_reading.proofs.Written.{leaf, leads}
use Rattle.java_reading.proofs.SoundPrefix.{named_left, operand_left, parens_left}
use Rattle.java_reading.proofs.SoundNew.{super_left, creation_left}
use Rattle.java_reading.proofs.SoundInfix.{behind_left}

module _ (b : ℕ) (part : ℕ → Parser Tall) (sound : (l : ℕ) (xs : List Lexeme) → 1 ≤ l → l ≤ 13 → Sound b l xs (part l xs)) where
  operator_left : (l at : ℕ) (s : Operator) (xs ys : List Lexeme) → l ≤ 13 → xs ≡ lexeme at (k.Op s) ∷ ys → Left (suc b) l xs (prefix_operator b part l at s ys)
  operator_left l at o.LeftParen xs ys high is = parens_left b part sound l at xs ys high is
  operator_left l at o.Plus xs ys high is = operand_left b part sound l at unary.Plus xs ys is
  operator_left l at o.Minus xs ys high is = operand_left b part sound l at unary.Minus xs ys is
  operator_left l at o.Not xs ys high is = operand_left b part sound l at unary.Not xs ys is
  operator_left l at o.Tilde xs ys high is = operand_left b part sound l at unary.Complement xs ys is
  operator_left l at _ xs ys high is = tt

  keyword_left : (l at : ℕ) (s : Keyword) (xs ys : List Lexeme) → l ≤ 13 → xs ≡ lexeme at (k.Word s) ∷ ys → Left (suc b) l xs (prefix_keyword b part at s ys)
  keyword_left l at w.True xs ys high is =
      leaf b (Expr-F.Bool at true) (e.Bool at true) (lexeme at (k.Word w.True)) l xs ys (rolls-Bool at true) (omega arith) is (omega arith) (follows_most ys) is
  keyword_left l at w.False xs ys high is =
      leaf b (Expr-F.Bool at false) (e.Bool at false) (lexeme at (k.Word w.False)) l xs ys (rolls-Bool at false) (omega arith) is (omega arith) (follows_most ys) is
  keyword_left l at w.Null xs ys high is =
      leaf b (Expr-F.Null at) (e.Null at) (lexeme at (k.Word w.Null)) l xs ys (rolls-Null at) (omega arith) is (omega arith) (follows_most ys) is
  keyword_left l at w.This xs ys high is =
      leaf b (Expr-F.This at) (e.This at) (lexeme at (k.Word w.This)) l xs ys (rolls-This at) (omega arith) is (omega arith) (follows_most ys) is
  keyword_left l at w.Super xs ys high is = super_left b part sound l at high xs ys is
  keyword_left l at w.New xs ys high is = creation_left b part sound l at high xs ys is
  keyword_left l at _ xs ys high is = tt

  kind_left : (l at : ℕ) (kd : TokenKind) (xs ys : List Lexeme) → l ≤ 13 → xs ≡ lexeme at kd ∷ ys → Left (suc b) l xs (prefix_by b part l at kd ys)
  kind_left l at (k.Number v) xs ys high is =
      leaf b (Expr-F.Number at v) (e.Number at v) (lexeme at (k.Number v)) l xs ys (rolls-Number at v) (omega arith) is (omega arith) (follows_most ys) is
  kind_left l at (k.Text x) xs ys high is =
      leaf b (Expr-F.Text at x) (e.Text at x) (lexeme at (k.Text x)) l xs ys (rolls-Text at x) (omega arith) is (omega arith) (follows_most ys) is
  kind_left l at (k.Ident x) xs ys high is = named_left b part sound l (ident_at at x) xs ys high is
  kind_left l at (k.Word s) xs ys high is = keyword_left l at s xs ys high is
  kind_left l at (k.Op s) xs ys high is = operator_left l at s xs ys high is
  kind_left l at k.End xs ys high is = tt

  prefix_left : (l : ℕ) (xs : List Lexeme) → l ≤ 13 → Left (suc b) l xs (prefix b part l xs)
  unfolding prefix
  prefix_left l [] high = tt
  prefix_left l (x ∷ xs) high = kind_left l x.at x.kind (x ∷ xs) xs high refl

module _ (b : ℕ) (part : ℕ → Parser Tall) (sound : (l : ℕ) (xs : List Lexeme) → 1 ≤ l → l ≤ 13 → Sound b l xs (part l xs)) (l : ℕ) (one : 1 ≤ l) (xs : List Lexeme) where
  nonempty : (ys : List Lexeme) → l ≤ follows ys → 0 < length ys
  nonempty [] h = absurd (omega arith)
  nonempty (y ∷ ys) h = omega arith

  turn_on : (fuel : ℕ) → ((left : Tall) (ys : List Lexeme) → Written (suc b) l xs left ys → suc b < fuel + left.1 → Sound (suc b) l xs (climb b part l fuel left ys))
      → (h : ℕ) → suc b < suc fuel + h → (r : Outcome Tall) → Higher (suc b) l xs h r → Sound (suc b) l xs (r >>= climb b part l fuel)
  turn_on fuel ih h enough (Ok p) s = ih p.0 p.1 s.0 (omega (arith, s.1))
  turn_on fuel ih h enough (Err no_tree) s = tt
  turn_on fuel ih h enough (Err too_high) s = s

  turn_test : (fuel : ℕ) → ((left : Tall) (ys : List Lexeme) → Written (suc b) l xs left ys → suc b < fuel + left.1 → Sound (suc b) l xs (climb b part l fuel left ys))
      → (left : Tall) (ys : List Lexeme) → Written (suc b) l xs left ys → suc b < suc fuel + left.1
      → (stops : Bool) → nat_lt (follows ys) l ≡ stops → (fits : Bool) → nat_lt left.1 (suc b) ≡ fits
      → Sound (suc b) l xs (if stops then Ok (left, ys) else (if fits then (behind b part left (first_infix ys) (next ys) >>= climb b part l fuel) else Err too_high))
  turn_test fuel ih left ys lw enough true s fits f = (lw, from_below (follows ys) l s)
  turn_test fuel ih left ys lw enough false s true f =
      turn_on fuel ih left.1 enough (behind b part left (first_infix ys) (next ys))
      (behind_left b part sound l xs ys (next ys) left lw (let fit = from_below left.1 (suc b) f in omega arith) (first_infix ys) (from_not_below (follows ys) l s) lw.stop (leads ys) refl)
  turn_test fuel ih left ys lw enough false s false f =
      omega (arith, from_not_below left.1 (suc b) f, lw.taken, nonempty ys (from_not_below (follows ys) l s))

  climb_sound : (fuel : ℕ) (left : Tall) (ys : List Lexeme) → Written (suc b) l xs left ys → suc b < fuel + left.1 → Sound (suc b) l xs (climb b part l fuel left ys)
  unfolding climb
  climb_sound zero left ys lw enough = absurd (omega (arith, lw.low))
  climb_sound (suc fuel) left ys lw enough =
      turn_test fuel (climb_sound fuel) left ys lw enough (nat_lt (follows ys) l) refl (nat_lt left.1 (suc b)) refl

  precedence_by : (r : Outcome Tall) → Left (suc b) l xs r → Sound (suc b) l xs (r >>= climb b part l (suc b))
  precedence_by (Ok p) s = climb_sound (suc b) p.0 p.1 s (omega (arith, some_height p.0.1 p.0.0 l xs p.1 s.tree))
  precedence_by (Err no_tree) s = tt
  precedence_by (Err too_high) s = s

  precedence_sound : l ≤ 13 → Sound (suc b) l xs (precedence b part l xs)
  unfolding precedence
  precedence_sound high = precedence_by (prefix b part l xs) (prefix_left b part sound l xs high)

pub sound : (b l : ℕ) (xs : List Lexeme) → 1 ≤ l → l ≤ 13 → Sound b l xs (reading b l xs)
unfolding reading none_fits
sound zero l [] one high = tt
sound zero l (x ∷ xs) one high = omega arith
sound (suc b) l xs one high = precedence_sound b (reading b) (sound b) l one xs high
