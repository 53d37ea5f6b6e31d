-- What is read of trees that begin with an operand is written.
use Rattle.std.proofs.Common.{◌≡◌, ℕ, suc, ◌+◌, ◌≤◌, ◌<◌, max, nat_lt, if◌then◌else◌, List, length, Bool, true, false, Ok, Err, refl, ap, arith}
use Rattle.java_tokens.specs.declared.token.Keyword.TheVariants as w
use Rattle.java_tokens.specs.declared.token.Operator.TheVariants as o
use Rattle.java_tokens.specs.declared.token.TokenKind.TheVariants as k
use Rattle.token_reading.specs.declared.name.Ident.{Ident}
use Rattle.token_reading.specs.declared.name.TypeTree.{TypeTree}
use Rattle.java_syntax.specs.declared.operator.BinaryOp.{BinaryOp}
use Rattle.java_syntax.specs.declared.expression.Expr.{out-Expr}
use Rattle.java_syntax.specs.declared.expression.Expr.TheVariants as e
use Rattle.java_syntax.specs.declared.expression.Expr.TheVariants.{rolls-Binary, rolls-InstanceOf, rolls-Conditional, rolls-Field, rolls-Method, rolls-Element}
use Rattle.java_syntax.specs.declared.expression.Expr.TheOpen.{Expr-F}
use Rattle.token_reading.specs.Lexeme.{Lexeme, Then, sees}
use Rattle.token_reading.specs.Types.{IsIdent}
use Rattle.token_reading.specs.Height.{type_height}
use Rattle.java_syntax.specs.Exprs.{binary_sign, binary_level, level, Within}
use Rattle.java_reading.specs.declared.infix.Infix.{Infix}
use Rattle.java_reading.specs.declared.infix.Infix.TheVariants as i
use Rattle.token_reading.specs.Outcome.{no_tree, too_high, Outcome, Parser, ◌>>=◌}
use Rattle.token_reading.specs.ReadType.{next, expect, ident, type_tree}
use Rattle.java_reading.specs.ReadExpr.{Tall, Talls, binds, follows, args, operated, instance_of, conditional, element, member, behind}
use Rattle.token_reading.proofs.Tests.{from_not_below}
use Rattle.token_reading.proofs.Lexemes.{then_length, type_length, from_sees, Limited, Plainly, Expected, expected, ident_written, TypeWithin, type_written}
use Rattle.java_reading.proofs.Levels.{after, binary_range, lifts, lifts_or, follows_most, name_stop}
use Rattle.java_reading.proofs.Growing.{grown, leveled, args_map}
use Rattle.java_reading.proofs.Claims.{Written, Sound, Higher, ArgsSound}
use Rattle.java_reading.proofs.Written.{wrote, Leads}
use Rattle.java_reading.proofs.SoundArgs.{args_sound}

-- The operand `left` is written from xs to ys, and the token after it at ys; zs stands after that.
module _ (b : ℕ) (part : ℕ → Parser Tall) (sound : (l : ℕ) (xs : List Lexeme) → 1 ≤ l → l ≤ 13 → Sound b l xs (part l xs))
    (l : ℕ) (xs ys zs : List Lexeme) (left : Tall) (lw : Written (suc b) l xs left ys) (low : left.1 ≤ b) where
  -- the left operand as one of another level, in a higher tree
  as_operand : (h c : ℕ) → left.1 ≤ h → c ≤ level (out-Expr left.0) → Within h left.0 c xs ys
  as_operand h c up hold = grown left.1 h up left.0 c xs ys (leveled left.1 left.0 l c xs ys hold lw.tree)

  -- ---- operators

  binary_left : (op : BinaryOp) → l ≤ binary_level op → binary_level op ≤ level (out-Expr left.0) → Then (k.Op (binary_sign op)) ys zs
      → (r : Outcome Tall) → Sound b (binary_level op + 1) zs r
      → Higher (suc b) l xs left.1 (r >>= (λ a us. Ok ((e.Binary op left.0 a.0, max left.1 a.1 + 1), us)))
  binary_left op lv hold t (Ok p) s =
      let h = max left.1 p.0.1 in (
        wrote (suc b) h (h + 1) (Expr-F.Binary op left.0 p.0.0) (e.Binary op left.0 p.0.0) l xs p.1
            (rolls-Binary op left.0 p.0.0) (omega arith) (omega arith) (omega (arith, s.0.low)) (omega (arith, lw.taken, then_length _ ys zs t, s.0.taken)) lv
            (omega (arith, s.1))
            (ys, as_operand h (binary_level op) (omega arith) hold, zs, t, grown p.0.1 h (omega arith) p.0.0 (binary_level op + 1) zs p.1 s.0.tree),
        omega arith,
      )
  binary_left op lv hold t (Err no_tree) s = tt
  binary_left op lv hold t (Err too_high) s = omega (arith, lw.taken, then_length _ ys zs t)

  -- ---- `instanceof`

  test_end : (t : TypeTree) (us : List Lexeme) → l ≤ 8 → 8 ≤ level (out-Expr left.0) → Then (k.Word w.Instanceof) ys zs → TypeWithin b t zs us
      → (tight : Bool) → nat_lt 8 (follows us) ≡ tight
      → Higher (suc b) l xs left.1 (if tight then Err no_tree else Ok ((e.InstanceOf left.0 t, max (type_height t) left.1 + 1), us))
  test_end t us lv hold u v true tight = tt
  test_end t us lv hold u v false tight =
      let h = max (type_height t) left.1 in (
        wrote (suc b) h (h + 1) (Expr-F.InstanceOf left.0 t) (e.InstanceOf left.0 t) l xs us (rolls-InstanceOf left.0 t) (omega arith) (omega arith)
            (omega (arith, v.1))
            (omega (arith, lw.taken, then_length _ ys zs u, type_length t zs us v.0)) lv (from_not_below 8 (follows us) tight)
            (ys, as_operand h 8 (omega arith) hold, zs, u, v.0),
        omega arith,
      )

  test_left : l ≤ 8 → 8 ≤ level (out-Expr left.0) → Then (k.Word w.Instanceof) ys zs → (r : Outcome TypeTree)
      → Limited (TypeWithin b) (b < length zs) zs r
      → Higher (suc b) l xs left.1 (r >>= (λ t us.
      if nat_lt 8 (follows us) then Err no_tree else Ok ((e.InstanceOf left.0 t, max (type_height t) left.1 + 1), us)))
  test_left lv hold u (Ok p) v = test_end p.0 p.1 lv hold u v (nat_lt 8 (follows p.1)) refl
  test_left lv hold u (Err no_tree) v = tt
  test_left lv hold u (Err too_high) v = omega (arith, lw.taken, then_length _ ys zs u)

  -- ---- `?` and `:`

  conditional_last : (us vs : List Lexeme) (a : Tall) → l ≤ 1 → 2 ≤ level (out-Expr left.0) → Then (k.Op o.Question) ys zs → Written b 1 zs a us → Then (k.Op o.Colon) us vs
      → (r : Outcome Tall) → Sound b 1 vs r
      → Higher (suc b) l xs left.1 (r >>= (λ c rest. Ok ((e.Conditional left.0 a.0 c.0, max left.1 (max a.1 c.1) + 1), rest)))
  conditional_last us vs a lv hold t wa u (Ok p) s =
      let h = max left.1 (max a.1 p.0.1) in (
        wrote (suc b) h (h + 1) (Expr-F.Conditional left.0 a.0 p.0.0) (e.Conditional left.0 a.0 p.0.0) l xs p.1
            (rolls-Conditional left.0 a.0 p.0.0) (omega arith) (omega arith) (omega (arith, s.0.low, wa.low))
            (omega (arith, lw.taken, then_length _ ys zs t, wa.taken, then_length _ us vs u, s.0.taken)) lv (omega (arith, s.1)) (
              ys,
              as_operand h 2 (omega arith) hold,
              zs,
              t,
              us,
              grown a.1 h (omega arith) a.0 1 zs us wa.tree,
              vs,
              u,
              grown p.0.1 h (omega arith) p.0.0 1 vs p.1 s.0.tree,
            ),
        omega arith,
      )
  conditional_last us vs a lv hold t wa u (Err no_tree) s = tt
  conditional_last us vs a lv hold t wa u (Err too_high) s = omega (arith, lw.taken, then_length _ ys zs t, wa.taken, then_length _ us vs u)

  conditional_colon : (us : List Lexeme) (a : Tall) → l ≤ 1 → 2 ≤ level (out-Expr left.0) → Then (k.Op o.Question) ys zs → Written b 1 zs a us
      → (r : Outcome (Unit {0})) → Expected o.Colon us r
      → Higher (suc b) l xs left.1 (r >>= (λ _ vs. part 1 vs >>= (λ c rest. Ok ((e.Conditional left.0 a.0 c.0, max left.1 (max a.1 c.1) + 1), rest))))
  conditional_colon us a lv hold t wa (Ok p) u = conditional_last us p.1 a lv hold t wa u (part 1 p.1) (sound 1 p.1 (omega arith) (omega arith))
  conditional_colon us a lv hold t wa (Err no_tree) u = tt
  conditional_colon us a lv hold t wa (Err too_high) u = absurd u

  conditional_left : l ≤ 1 → 2 ≤ level (out-Expr left.0) → Then (k.Op o.Question) ys zs → (r : Outcome Tall) → Sound b 1 zs r
      → Higher (suc b) l xs left.1 (r >>= (λ a us. expect o.Colon us >>= (λ _ vs. part 1 vs >>= (λ c rest.
      Ok ((e.Conditional left.0 a.0 c.0, max left.1 (max a.1 c.1) + 1), rest)))))
  conditional_left lv hold t (Ok p) s = conditional_colon p.1 p.0 lv hold t s.0 (expect o.Colon p.1) (expected o.Colon p.1)
  conditional_left lv hold t (Err no_tree) s = tt
  conditional_left lv hold t (Err too_high) s = omega (arith, lw.taken, then_length _ ys zs t)

  -- ---- `[` and `]`

  element_close : (us : List Lexeme) (i : Tall) → l ≤ 14 → 14 ≤ level (out-Expr left.0) → Then (k.Op o.LeftBracket) ys zs → Written b 1 zs i us
      → (r : Outcome (Unit {0})) → Expected o.RightBracket us r
      → Higher (suc b) l xs left.1 (r >>= (λ _ rest. Ok ((e.Element left.0 i.0, max left.1 i.1 + 1), rest)))
  element_close us i lv hold t wi (Ok p) u =
      let h = max left.1 i.1 in (
        wrote (suc b) h (h + 1) (Expr-F.Element left.0 i.0) (e.Element left.0 i.0) l xs p.1
            (rolls-Element left.0 i.0) (omega arith) (omega arith) (omega (arith, wi.low))
            (omega (arith, lw.taken, then_length _ ys zs t, wi.taken, then_length _ us p.1 u)) lv (follows_most p.1)
            (ys, as_operand h 14 (omega arith) hold, zs, t, us, grown i.1 h (omega arith) i.0 1 zs us wi.tree, u),
        omega arith,
      )
  element_close us i lv hold t wi (Err no_tree) u = tt
  element_close us i lv hold t wi (Err too_high) u = absurd u

  element_left : l ≤ 14 → 14 ≤ level (out-Expr left.0) → Then (k.Op o.LeftBracket) ys zs → (r : Outcome Tall) → Sound b 1 zs r
      → Higher (suc b) l xs left.1 (r >>= (λ i us. expect o.RightBracket us >>= (λ _ rest. Ok ((e.Element left.0 i.0, max left.1 i.1 + 1), rest))))
  element_left lv hold t (Ok p) s = element_close p.1 p.0 lv hold t s.0 (expect o.RightBracket p.1) (expected o.RightBracket p.1)
  element_left lv hold t (Err no_tree) s = tt
  element_left lv hold t (Err too_high) s = omega (arith, lw.taken, then_length _ ys zs t)

  -- ---- `.`

  method_left : (x : Ident) (us vs : List Lexeme) → l ≤ 14 → 14 ≤ level (out-Expr left.0) → Then (k.Op o.Dot) ys zs → IsIdent x zs us → Then (k.Op o.LeftParen) us vs
      → (r : Outcome Talls) → ArgsSound b vs r
      → Higher (suc b) l xs left.1 (r >>= (λ g rest. Ok ((e.Method left.0 x g.0, max left.1 g.1 + 1), rest)))
  method_left x us vs lv hold t u v (Ok p) s =
      let h = max left.1 p.0.1 in (
        wrote (suc b) h (h + 1) (Expr-F.Method left.0 x p.0.0) (e.Method left.0 x p.0.0) l xs p.1
            (rolls-Method left.0 x p.0.0) (omega arith) (omega arith) (omega (arith, s.1))
            (omega (arith, lw.taken, then_length _ ys zs t, ap length u, then_length _ us vs v, s.2)) lv (follows_most p.1) (
              ys,
              as_operand h 14 (omega arith) hold,
              zs,
              t,
              us,
              u,
              vs,
              v,
              args_map (Within p.0.1) (Within h) (grown p.0.1 h (omega arith)) p.0.0 vs p.1 s.0,
            ),
        omega arith,
      )
  method_left x us vs lv hold t u v (Err no_tree) s = tt
  method_left x us vs lv hold t u v (Err too_high) s = omega (arith, lw.taken, then_length _ ys zs t, ap length u, then_length _ us vs v)

  member_test : (x : Ident) (us : List Lexeme) → l ≤ 14 → 14 ≤ level (out-Expr left.0) → Then (k.Op o.Dot) ys zs → IsIdent x zs us
      → (t : Bool) → sees o.LeftParen us ≡ t
      → Higher (suc b) l xs left.1 (if t then (args part (next us) >>= (λ g rest. Ok ((e.Method left.0 x g.0, max left.1 g.1 + 1), rest)))
      else Ok ((e.Field left.0 x, left.1 + 1), us))
  member_test x us lv hold t u true is =
      method_left x us (next us) lv hold t u (from_sees o.LeftParen us is) (args part (next us)) (args_sound b part sound (next us))
  member_test x us lv hold t u false is = (
    wrote (suc b) left.1 (left.1 + 1) (Expr-F.Field left.0 x) (e.Field left.0 x) l xs us
        (rolls-Field left.0 x) (omega arith) (omega arith) (omega arith)
        (omega (arith, lw.taken, then_length _ ys zs t, ap length u)) lv (name_stop us is)
        (ys, as_operand left.1 14 (omega arith) hold, zs, t, u),
    omega arith,
  )

  member_left : l ≤ 14 → 14 ≤ level (out-Expr left.0) → Then (k.Op o.Dot) ys zs → (r : Outcome Ident) → Plainly IsIdent zs r
      → Higher (suc b) l xs left.1 (r >>= (λ x us.
      if sees o.LeftParen us then (args part (next us) >>= (λ g rest. Ok ((e.Method left.0 x g.0, max left.1 g.1 + 1), rest)))
      else Ok ((e.Field left.0 x, left.1 + 1), us)))
  member_left lv hold t (Ok p) u = member_test p.0 p.1 lv hold t u (sees o.LeftParen p.1) refl
  member_left lv hold t (Err no_tree) u = tt
  member_left lv hold t (Err too_high) u = absurd u

  pub behind_left : (i : Infix) → l ≤ binds i → binds i ≤ after (out-Expr left.0) → Leads i ys → zs ≡ next ys → Higher (suc b) l xs left.1 (behind b part left i zs)
  unfolding operated instance_of conditional element member
  behind_left (i.Binary op) lv hold t is =
      binary_left op lv (lifts (out-Expr left.0) (binary_level op) (omega (arith, (binary_range op).1)) hold) (rw is t) (part (binary_level op + 1) zs)
      (sound (binary_level op + 1) zs (omega arith) (omega (arith, (binary_range op).1)))
  behind_left i.InstanceOf lv hold t is = test_left lv (lifts (out-Expr left.0) 8 (omega arith) hold) (rw is t) (type_tree b zs) (type_written b zs)
  behind_left i.Question lv hold t is = conditional_left lv (lifts_or (out-Expr left.0) hold) (rw is t) (part 1 zs) (sound 1 zs (omega arith) (omega arith))
  behind_left i.Dot lv hold t is = member_left lv (lifts (out-Expr left.0) 14 (omega arith) hold) (rw is t) (ident zs) (ident_written zs)
  behind_left i.Bracket lv hold t is = element_left lv (lifts (out-Expr left.0) 14 (omega arith) hold) (rw is t) (part 1 zs) (sound 1 zs (omega arith) (omega arith))
  behind_left i.Paren lv hold t is = tt
  behind_left i.Other lv hold t is = tt
