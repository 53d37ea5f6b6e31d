-- What is read of calls through `super` and of creations is written.
use Rattle.std.proofs.Common.{◌≡◌, ℕ, suc, ◌+◌, ◌≤◌, ◌<◌, max, if◌then◌else◌, List, ◌∷◌, length, Bool, true, false, Ok, Err, ap, arith}
use Rattle.java_tokens.specs.declared.token.Keyword.TheVariants as w
use Rattle.java_tokens.specs.declared.token.Operator.TheVariants as o
use Rattle.java_tokens.specs.declared.token.TokenKind.TheVariants as k
use Rattle.token_reading.specs.declared.name.BaseType.{BaseType}
use Rattle.token_reading.specs.declared.name.BaseType.TheVariants as base
use Rattle.token_reading.specs.declared.name.Ident.{Ident}
use Rattle.java_syntax.specs.declared.expression.Expr.TheVariants as e
use Rattle.java_syntax.specs.declared.expression.Expr.TheVariants.{rolls-Super, rolls-New, rolls-NewArray}
use Rattle.java_syntax.specs.declared.expression.Expr.TheOpen.{Expr-F}
use Rattle.token_reading.specs.Lexeme.{Lexeme, lexeme, Then, sees}
use Rattle.token_reading.specs.Types.{IsIdent, IsBase}
use Rattle.token_reading.specs.Outcome.{no_tree, too_high, Outcome, Parser, ◌>>=◌}
use Rattle.token_reading.specs.ReadType.{expect, ident, pairs, base_type}
use Rattle.java_reading.specs.ReadExpr.{Tall, Talls, args, super_call, instance, array, creation_by, creation}
use Rattle.token_reading.proofs.Lexemes.{then_length, base_length, brackets_length, Limited, Plainly, Expected, expected, ident_written, base_written, IsPairs, pairs_written}
use Rattle.java_reading.proofs.Levels.{follows_most}
use Rattle.java_reading.proofs.Growing.{grown}
use Rattle.java_reading.proofs.Claims.{Written, Sound, Left, ArgsSound}
use Rattle.java_reading.proofs.Written.{wrote}
use Rattle.java_reading.proofs.SoundArgs.{args_sound}

-- `xs` begins with the token, and `ys` stands after it
module _ (b : ℕ) (part : ℕ → Parser Tall) (sound : (l : ℕ) (xs : List Lexeme) → 1 ≤ l → l ≤ 13 → Sound b l xs (part l xs))
    (l at : ℕ) (high : l ≤ 13) (xs ys : List Lexeme) where
  -- ---- `super . x ( .. )`

  super_args : (x : Ident) (zs us vs : List Lexeme) → xs ≡ lexeme at (k.Word w.Super) ∷ ys → Then (k.Op o.Dot) ys zs → IsIdent x zs us → Then (k.Op o.LeftParen) us vs
      → (r : Outcome Talls) → ArgsSound b vs r → Left (suc b) l xs (r >>= (λ g rest. Ok ((e.Super at x g.0, g.1 + 1), rest)))
  super_args x zs us vs is t u v (Ok p) s =
      wrote (suc b) p.0.1 (p.0.1 + 1) (Expr-F.Super at x p.0.0) (e.Super at x p.0.0) l xs p.1 (rolls-Super at x p.0.0) (omega arith) (omega arith) (omega (arith, s.1))
      (omega (arith, ap length is, then_length _ ys zs t, ap length u, then_length _ us vs v, s.2)) (omega arith) (follows_most p.1)
      (ys, is, zs, t, us, u, vs, v, s.0)
  super_args x zs us vs is t u v (Err no_tree) s = tt
  super_args x zs us vs is t u v (Err too_high) s = omega (arith, ap length is, then_length _ ys zs t, ap length u, then_length _ us vs v)

  super_paren : (x : Ident) (zs us : List Lexeme) → xs ≡ lexeme at (k.Word w.Super) ∷ ys → Then (k.Op o.Dot) ys zs → IsIdent x zs us
      → (r : Outcome (Unit {0})) → Expected o.LeftParen us r
      → Left (suc b) l xs (r >>= (λ _ vs. args part vs >>= (λ g rest. Ok ((e.Super at x g.0, g.1 + 1), rest))))
  super_paren x zs us is t u (Ok p) v = super_args x zs us p.1 is t u v (args part p.1) (args_sound b part sound p.1)
  super_paren x zs us is t u (Err no_tree) v = tt
  super_paren x zs us is t u (Err too_high) v = absurd v

  super_name : (zs : List Lexeme) → xs ≡ lexeme at (k.Word w.Super) ∷ ys → Then (k.Op o.Dot) ys zs → (r : Outcome Ident) → Plainly IsIdent zs r
      → Left (suc b) l xs (r >>= (λ x us. expect o.LeftParen us >>= (λ _ vs. args part vs >>= (λ g rest. Ok ((e.Super at x g.0, g.1 + 1), rest)))))
  super_name zs is t (Ok p) u = super_paren p.0 zs p.1 is t u (expect o.LeftParen p.1) (expected o.LeftParen p.1)
  super_name zs is t (Err no_tree) u = tt
  super_name zs is t (Err too_high) u = absurd u

  super_dot : xs ≡ lexeme at (k.Word w.Super) ∷ ys → (r : Outcome (Unit {0})) → Expected o.Dot ys r
      → Left (suc b) l xs (r >>= (λ _ zs. ident zs >>= (λ x us. expect o.LeftParen us >>= (λ _ vs. args part vs >>= (λ g rest.
      Ok ((e.Super at x g.0, g.1 + 1), rest))))))
  super_dot is (Ok p) t = super_name p.1 is t (ident p.1) (ident_written p.1)
  super_dot is (Err no_tree) t = tt
  super_dot is (Err too_high) t = absurd t

  pub super_left : xs ≡ lexeme at (k.Word w.Super) ∷ ys → Left (suc b) l xs (super_call part at ys)
  unfolding super_call
  super_left is = super_dot is (expect o.Dot ys) (expected o.Dot ys)

  -- ---- `new x ( .. )`

  new_args : (x : Ident) (zs us : List Lexeme) → xs ≡ lexeme at (k.Word w.New) ∷ ys → IsIdent x ys zs → Then (k.Op o.LeftParen) zs us
      → (r : Outcome Talls) → ArgsSound b us r → Left (suc b) l xs (r >>= (λ g rest. Ok ((e.New at x g.0, g.1 + 1), rest)))
  new_args x zs us is u t (Ok p) s =
      wrote (suc b) p.0.1 (p.0.1 + 1) (Expr-F.New at x p.0.0) (e.New at x p.0.0) l xs p.1 (rolls-New at x p.0.0) (omega arith) (omega arith) (omega (arith, s.1))
      (omega (arith, ap length is, ap length u, then_length _ zs us t, s.2)) (omega arith) (follows_most p.1) (ys, is, zs, u, us, t, s.0)
  new_args x zs us is u t (Err no_tree) s = tt
  new_args x zs us is u t (Err too_high) s = omega (arith, ap length is, ap length u, then_length _ zs us t)

  new_paren : (x : Ident) (zs : List Lexeme) → xs ≡ lexeme at (k.Word w.New) ∷ ys → IsIdent x ys zs → (r : Outcome (Unit {0})) → Expected o.LeftParen zs r
      → Left (suc b) l xs (r >>= (λ _ us. args part us >>= (λ g rest. Ok ((e.New at x g.0, g.1 + 1), rest))))
  new_paren x zs is u (Ok p) t = new_args x zs p.1 is u t (args part p.1) (args_sound b part sound p.1)
  new_paren x zs is u (Err no_tree) t = tt
  new_paren x zs is u (Err too_high) t = absurd t

  -- ---- `new T [ .. ] [ ] ..`

  array_end : (c : BaseType) (size : Tall) (zs us vs ws : List Lexeme) → xs ≡ lexeme at (k.Word w.New) ∷ ys → IsBase c ys zs → Then (k.Op o.LeftBracket) zs us
      → Written b 1 us size vs → Then (k.Op o.RightBracket) vs ws → (r : Outcome ℕ) → Limited (IsPairs b) (b < length ws) ws r
      → Left (suc b) l xs (r >>= (λ d rest. Ok ((e.NewArray at c size.0 d, max d size.1 + 1), rest)))
  array_end c size zs us vs ws is u t wa v (Ok p) s =
      let h = max p.0 size.1 in
      wrote (suc b) h (h + 1) (Expr-F.NewArray at c size.0 p.0) (e.NewArray at c size.0 p.0) l xs p.1 (rolls-NewArray at c size.0 p.0) (omega arith)
      (omega arith) (omega (arith, wa.low, s.1))
      (omega (arith, ap length is, base_length c ys zs u, then_length _ zs us t, wa.taken, then_length _ vs ws v, brackets_length p.0 ws p.1 s.0))
      (omega arith) (follows_most p.1)
      (ys, is, zs, u, us, t, vs, grown size.1 h (omega arith) size.0 1 us vs wa.tree, ws, v, s.0, s.2)
  array_end c size zs us vs ws is u t wa v (Err no_tree) s = tt
  array_end c size zs us vs ws is u t wa v (Err too_high) s =
      omega (arith, ap length is, base_length c ys zs u, then_length _ zs us t, wa.taken, then_length _ vs ws v)

  array_close : (c : BaseType) (size : Tall) (zs us vs : List Lexeme) → xs ≡ lexeme at (k.Word w.New) ∷ ys → IsBase c ys zs → Then (k.Op o.LeftBracket) zs us
      → Written b 1 us size vs → (r : Outcome (Unit {0})) → Expected o.RightBracket vs r
      → Left (suc b) l xs (r >>= (λ _ ws. pairs b ws >>= (λ d rest. Ok ((e.NewArray at c size.0 d, max d size.1 + 1), rest))))
  array_close c size zs us vs is u t wa (Ok p) v =
      array_end c size zs us vs p.1 is u t wa v (pairs b p.1) (pairs_written b p.1)
  array_close c size zs us vs is u t wa (Err no_tree) v = tt
  array_close c size zs us vs is u t wa (Err too_high) v = absurd v

  array_size : (c : BaseType) (zs us : List Lexeme) → xs ≡ lexeme at (k.Word w.New) ∷ ys → IsBase c ys zs → Then (k.Op o.LeftBracket) zs us
      → (r : Outcome Tall) → Sound b 1 us r
      → Left (suc b) l xs (r >>= (λ size vs. expect o.RightBracket vs >>= (λ _ ws. pairs b ws >>= (λ d rest.
      Ok ((e.NewArray at c size.0 d, max d size.1 + 1), rest)))))
  array_size c zs us is u t (Ok p) s = array_close c p.0 zs us p.1 is u t s.0 (expect o.RightBracket p.1) (expected o.RightBracket p.1)
  array_size c zs us is u t (Err no_tree) s = tt
  array_size c zs us is u t (Err too_high) s = omega (arith, ap length is, base_length c ys zs u, then_length _ zs us t)

  array_bracket : (c : BaseType) (zs : List Lexeme) → xs ≡ lexeme at (k.Word w.New) ∷ ys → IsBase c ys zs → (r : Outcome (Unit {0})) → Expected o.LeftBracket zs r
      → Left (suc b) l xs (r >>= (λ _ us. part 1 us >>= (λ size vs. expect o.RightBracket vs >>= (λ _ ws. pairs b ws >>= (λ d rest.
      Ok ((e.NewArray at c size.0 d, max d size.1 + 1), rest))))))
  array_bracket c zs is u (Ok p) t = array_size c zs p.1 is u t (part 1 p.1) (sound 1 p.1 (omega arith) (omega arith))
  array_bracket c zs is u (Err no_tree) t = tt
  array_bracket c zs is u (Err too_high) t = absurd t

  array_left : (c : BaseType) (zs : List Lexeme) → xs ≡ lexeme at (k.Word w.New) ∷ ys → IsBase c ys zs → Left (suc b) l xs (array b part at c zs)
  unfolding array
  array_left c zs is u = array_bracket c zs is u (expect o.LeftBracket zs) (expected o.LeftBracket zs)

  -- ---- either of them

  class_test : (x : Ident) (zs : List Lexeme) → xs ≡ lexeme at (k.Word w.New) ∷ ys → IsIdent x ys zs → (t : Bool)
      → Left (suc b) l xs (if t then instance part at x zs else array b part at (base.Class x) zs)
  unfolding instance
  class_test x zs is u true = new_paren x zs is u (expect o.LeftParen zs) (expected o.LeftParen zs)
  class_test x zs is u false = array_left (base.Class x) zs is u

  creation_base : xs ≡ lexeme at (k.Word w.New) ∷ ys → (c : BaseType) (zs : List Lexeme) → IsBase c ys zs → Left (suc b) l xs (creation_by b part at c zs)
  creation_base is base.Int zs u = array_left base.Int zs is u
  creation_base is base.Boolean zs u = array_left base.Boolean zs is u
  creation_base is (base.Class x) zs u = class_test x zs is u (sees o.LeftParen zs)

  creation_any : xs ≡ lexeme at (k.Word w.New) ∷ ys → (r : Outcome BaseType) → Plainly IsBase ys r → Left (suc b) l xs (r >>= creation_by b part at)
  creation_any is (Ok p) u = creation_base is p.0 p.1 u
  creation_any is (Err no_tree) u = tt
  creation_any is (Err too_high) u = absurd u

  pub creation_left : xs ≡ lexeme at (k.Word w.New) ∷ ys → Left (suc b) l xs (creation b part at ys)
  unfolding creation
  creation_left is = creation_any is (base_type ys) (base_written ys)
