-- A tree that is written is read.
use Rattle.std.proofs.Common.{◌≡◌, ℕ, zero, suc, ◌+◌, ◌≤◌, ◌<◌, List, [], ◌∷◌, length, Ok, Err, refl, ◌∙◌, subst, arith}
use Rattle.java_syntax.specs.declared.expression.Expr.{Expr, out-Expr, roll-Expr}
use Rattle.java_syntax.specs.declared.expression.Expr.TheOpen.{Expr-F}
use Rattle.java_syntax.specs.declared.expression.Expr.TheViews.{roll-out-Expr}
use Rattle.java_syntax.specs.declared.expression.Expr.TheVariants.{rolls-Number, rolls-Text, rolls-Bool, rolls-Null, rolls-This, rolls-Name, rolls-Call, rolls-Paren, rolls-Super, rolls-New, rolls-NewArray, rolls-Field, rolls-Method, rolls-Element, rolls-Unary, rolls-Cast, rolls-Binary, rolls-InstanceOf, rolls-Conditional}
use Rattle.java_tokens.specs.declared.token.Operator.TheVariants as o
use Rattle.token_reading.specs.Lexeme.{Lexeme}
use Rattle.java_syntax.specs.Exprs.{Layer, level, binary_level, Node, inner_type_height, Within}
use Rattle.token_reading.specs.Outcome.{too_high, Parser}
use Rattle.token_reading.specs.ReadType.{none_fits}
use Rattle.java_reading.specs.ReadExpr.{Tall, follows, climb, reading}
use Rattle.token_reading.proofs.Tests.{below}
use Rattle.java_reading.proofs.Claims.{Done, done, over, Goes, goes, higher}
use Rattle.java_reading.proofs.Levels.{after, binary_range, ends, joins, hangs, follows_gap, looser, within_level}
use Rattle.java_reading.proofs.Begins.{within_begins}
use Rattle.java_reading.proofs.Casts.{is_cast}
use Rattle.java_reading.proofs.Growing.{some_height}
use Rattle.java_reading.proofs.Shorter.{within_length}
use Rattle.java_reading.proofs.Arguments.{Finds, args_goes}
use Rattle.java_reading.proofs.Prefixes.{number_goes, text_goes, bool_goes, null_goes, this_goes, name_goes, call_goes, super_goes, new_goes, array_goes, unary_goes, paren_goes, cast_goes}
use Rattle.java_reading.proofs.Infixes.{infix_sign, binary_goes, test_goes, conditional_goes, element_goes, field_goes, method_goes}

-- a tree of height n or less that is written becomes a left operand, or it is higher than the budget
abbrev Comes : ℕ → Type 0
Comes n = (b : ℕ) (e : Expr) (l : ℕ) (xs rest : List Lexeme) → Within n e l xs rest → (least : ℕ) → least ≤ l → least ≤ 13
    → follows rest ≤ after (out-Expr e) → Goes n b least e xs rest

climb_stops : (b : ℕ) (part : ℕ → Parser Tall) (l fuel : ℕ) (left : Tall) (rest : List Lexeme) → follows rest < l
    → climb b part l fuel left rest ≡ Ok (left, rest)
unfolding climb
climb_stops b part l zero left rest h = rw (below (follows rest) l h) refl
climb_stops b part l (suc fuel) left rest h = rw (below (follows rest) l h) refl

finish : (n b l : ℕ) (e : Expr) (xs rest : List Lexeme) → follows rest < l → Goes n b l e xs rest → Done n (suc b) l e xs rest
finish n b l e xs rest stop (goes h fuel hn hb hf r) = done h hn hb (r ∙ climb_stops b (reading b) l fuel (e, h) rest stop)
finish n b l e xs rest stop (higher hn r) = over hn r

no_budget : (l : ℕ) (xs : List Lexeme) → 0 < length xs → reading 0 l xs ≡ Err too_high
unfolding reading none_fits
no_budget l [] h = absurd (omega arith)
no_budget l (x ∷ xs) h = refl

finds : (n : ℕ) → Comes n → Finds n
finds n comes zero e l xs rest w one high stop =
    over (some_height n e l xs rest w) (no_budget l xs (omega (arith, within_length n e l xs rest w)))
finds n comes (suc b) e l xs rest w one high stop =
    finish n b l e xs rest stop
    (comes b e l xs rest w l (omega arith) high (ends (out-Expr e) l (follows rest) (within_level n e l xs rest w) stop (follows_gap rest)))

module _ (n b : ℕ) (comes : Comes n) where
  whole : (e : Expr) (l : ℕ) (xs rest : List Lexeme) → Within n e l xs rest → 1 ≤ l → l ≤ 13 → follows rest < l → Done n b l e xs rest
  whole = finds n comes b

  -- the operand on the left of a suffix
  post : (e : Expr) (least : ℕ) (xs ys : List Lexeme) → Within n e 14 xs ys → least ≤ 13 → follows ys ≤ 14 → Goes n b least e xs ys
  post e least xs ys w high stop =
      comes b e 14 xs ys w least (omega arith) high (hangs (out-Expr e) (follows ys) (within_level n e 14 xs ys w) stop)

  node_goes : (f : Layer) (l : ℕ) (xs rest : List Lexeme) → l ≤ level f → l ≤ 13 → follows rest ≤ after f → inner_type_height f ≤ n
      → Node (Within n) f xs rest → Goes (suc n) b l (roll-Expr f) xs rest
  node_goes (Expr-F.Number at v) l xs rest low high stop fit w = rw (rolls-Number at v) (number_goes n b l at v xs rest w)
  node_goes (Expr-F.Text at x) l xs rest low high stop fit w = rw (rolls-Text at x) (text_goes n b l at x xs rest w)
  node_goes (Expr-F.Bool at v) l xs rest low high stop fit w = rw (rolls-Bool at v) (bool_goes n b l at v xs rest w)
  node_goes (Expr-F.Null at) l xs rest low high stop fit w = rw (rolls-Null at) (null_goes n b l at xs rest w)
  node_goes (Expr-F.This at) l xs rest low high stop fit w = rw (rolls-This at) (this_goes n b l at xs rest w)
  node_goes (Expr-F.Name x) l xs rest low high stop fit w =
      rw (rolls-Name x) (name_goes n b l x xs rest w (looser o.LeftParen rest (omega arith)))
  node_goes (Expr-F.Call x given) l xs rest low high stop fit w =
      rw (rolls-Call x given) (call_goes n b l x given xs w.0 w.2 rest w.1 w.3 (args_goes n b (finds n comes) given w.2 rest w.4))
  node_goes (Expr-F.Paren at a) l xs rest low high stop fit w =
      rw (rolls-Paren at a) (paren_goes n b l at a xs w.0 w.3 rest w.1 w.2 (whole a 1 w.0 w.3 w.4 (omega arith) (omega arith) (rw w.5.1 (omega arith))) w.5)
  node_goes (Expr-F.Super at x given) l xs rest low high stop fit w =
      rw (rolls-Super at x given) (super_goes n b l at x given xs w.0 w.2 w.4 w.6 rest w.1 w.3 w.5 w.7 (args_goes n b (finds n comes) given w.6 rest w.8))
  node_goes (Expr-F.New at x given) l xs rest low high stop fit w =
      rw (rolls-New at x given) (new_goes n b l at x given xs w.0 w.2 w.4 rest w.1 w.3 w.5 (args_goes n b (finds n comes) given w.4 rest w.6))
  node_goes (Expr-F.NewArray at c size d) l xs rest low high stop fit w =
      rw (rolls-NewArray at c size d) (array_goes n b l at c size d xs w.0 w.2 w.4 w.6 w.8 rest w.1 w.3 w.5
      (whole size 1 w.4 w.6 w.7 (omega arith) (omega arith) (rw w.9.1 (omega arith))) w.9 w.10 w.11 fit)
  node_goes (Expr-F.Field a x) l xs rest low high stop fit w =
      rw (rolls-Field a x) (field_goes n b l a x xs w.0 w.2 rest low
      (post a l xs w.0 w.1 high (rw w.3.1 (omega arith))) w.3 w.4 (looser o.LeftParen rest (omega arith)))
  node_goes (Expr-F.Method a x given) l xs rest low high stop fit w =
      rw (rolls-Method a x given) (method_goes n b l a x given xs w.0 w.2 w.4 w.6 rest low
      (post a l xs w.0 w.1 high (rw w.3.1 (omega arith))) w.3 w.5 w.7 (args_goes n b (finds n comes) given w.6 rest w.8))
  node_goes (Expr-F.Element a i) l xs rest low high stop fit w =
      rw (rolls-Element a i) (element_goes n b l a i xs w.0 w.2 w.4 rest low
      (post a l xs w.0 w.1 high (rw w.3.1 (omega arith))) w.3
      (whole i 1 w.2 w.4 w.5 (omega arith) (omega arith) (rw w.6.1 (omega arith))) w.6)
  node_goes (Expr-F.Unary at op a) l xs rest low high stop fit w =
      rw (rolls-Unary at op a) (unary_goes n b l at op a xs w.0 rest w.1 low (whole a 12 w.0 rest w.2 (omega arith) (omega arith) (omega arith)))
  node_goes (Expr-F.Cast at t a) l xs rest low high stop fit w =
      rw (rolls-Cast at t a) (cast_goes n b l at t a xs w.0 w.2 w.5 rest w.1
      (is_cast t 13 w.0 w.2 w.5 w.3 w.6 (omega arith) (within_begins n a 13 w.5 rest w.7)) w.3 w.4 w.6
      (whole a 13 w.5 rest w.7 (omega arith) (omega arith) (omega arith)) fit)
  node_goes (Expr-F.Binary op a c) l xs rest low high stop fit w =
      rw (rolls-Binary op a c) (binary_goes n b l op a c xs w.0 w.2 rest low
      (comes b a (binary_level op) xs w.0 w.1 l low high
      (rw (w.3.1, infix_sign op) (joins (out-Expr a) (binary_level op) (binary_level op) (within_level n a (binary_level op) xs w.0 w.1) (omega arith)
      (binary_range op).0 (binary_range op).1)))
      w.3 (whole c (binary_level op + 1) w.2 rest w.4 (omega arith) (omega (arith, (binary_range op).1)) (omega arith)))
  node_goes (Expr-F.InstanceOf a t) l xs rest low high stop fit w =
      rw (rolls-InstanceOf a t) (test_goes n b l a t xs w.0 w.2 rest low
      (comes b a 8 xs w.0 w.1 l low high
      (rw w.3.1 (joins (out-Expr a) 8 8 (within_level n a 8 xs w.0 w.1) (omega arith) (omega arith) (omega arith))))
      w.3 w.4 stop fit)
  node_goes (Expr-F.Conditional c x y) l xs rest low high stop fit w =
      rw (rolls-Conditional c x y) (conditional_goes n b l c x y xs w.0 w.2 w.4 w.6 rest low
      (comes b c 2 xs w.0 w.1 l (omega arith) high
      (rw w.3.1 (ends (out-Expr c) 2 1 (within_level n c 2 xs w.0 w.1) (omega arith) (λ h. absurd (omega arith)))))
      w.3 (whole x 1 w.2 w.4 w.5 (omega arith) (omega arith) (rw w.7.1 (omega arith))) w.7
      (whole y 1 w.6 rest w.8 (omega arith) (omega arith) (omega arith)))

comes : (n : ℕ) → Comes n
unfolding Within
comes zero b e l xs rest w least low high stop = absurd w
comes (suc n) b e l xs rest w least low high stop =
    subst (λ (t : Expr). Goes (suc n) b least t xs rest) (roll-out-Expr e)
    (node_goes n b (comes n) (out-Expr e) least xs rest (omega (arith, w.0)) high stop w.2 w.1)

-- a tree that is written is found, or it is higher than the budget
pub complete : (n : ℕ) → Finds n
complete n = finds n (comes n)
