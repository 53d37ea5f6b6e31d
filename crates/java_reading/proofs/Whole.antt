-- What reading says of expressions of any height.
use Rattle.std.proofs.Common.{◌≡◌, ℕ, ◌≤◌, ◌<◌, max, List, [], Ok, Err, sym, ◌∙◌, ap, subst, arith}
use Rattle.java_syntax.specs.declared.expression.Expr.{Expr, out-Expr}
use Rattle.token_reading.specs.Lexeme.{Lexeme}
use Rattle.java_syntax.specs.Exprs.{Within}
use Rattle.java_syntax.specs.Height.{expr_height}
use Rattle.token_reading.specs.Outcome.{no_tree, too_high, Outcome}
use Rattle.java_reading.specs.ExprLaws.{OneExpression, FindsExpressions, GivesExpressions, RefusesExpressions, RefusesHighOnes, HeightIsLeast}
use Rattle.java_reading.specs.ReadExpr.{Tall, reading, follows}
use Rattle.java_reading.proofs.Claims.{Done, done, over, Sound}
use Rattle.java_reading.proofs.Complete.{complete}
use Rattle.java_reading.proofs.Growing.{grown, leveled, some_height, at_most, at_height}
use Rattle.java_reading.proofs.Sound.{sound}
use Rattle.java_reading.proofs.Levels.{level_range, within_level}
use Rattle.java_reading.proofs.Shorter.{within_length}
use Rattle.java_reading.proofs.Begins.{within_begins, no_super_call}
use Rattle.java_reading.proofs.Lookahead.{no_local}
use Rattle.java_reading.proofs.ExprFacts.{ExprFacts}

-- a tree of any level before a token that binds to nothing is found at level 1
found : (n b : ℕ) (e : Expr) (l : ℕ) (xs rest : List Lexeme) → Within n e l xs rest → follows rest ≡ 0 → Done n b 1 e xs rest
found n b e l xs rest w stop =
    complete n b e 1 xs rest (leveled n e l 1 xs rest (level_range (out-Expr e)).0 w) (omega arith) (omega arith) (omega arith)

-- what statements need to know of expressions
pub expr_facts : ExprFacts
expr_facts = record {
  found = found;
  sound = λ b xs. sound b 1 xs (omega arith) (omega arith);
  grown = grown;
  within_level = within_level;
  leveled = leveled;
  shorter = within_length;
  some_height = some_height;
  begins = within_begins;
  no_super_call = no_super_call;
  no_local = no_local;
  at_most = at_most;
  at_height = at_height;
}

-- ---- the laws

abbrev tree_of : Expr → Outcome Tall → Expr
tree_of e (Ok p) = p.0.0
tree_of e (Err f) = e

abbrev height_of : Outcome Tall → ℕ
height_of (Ok p) = p.0.1
height_of (Err f) = 0

abbrev rest_of : Outcome Tall → List Lexeme
rest_of (Ok p) = p.1
rest_of (Err f) = []

-- what is read is written with the height that is given with it, which is within the budget
gives_within : (n : ℕ) (e : Expr) (h : ℕ) (xs rest : List Lexeme) → reading n 1 xs ≡ Ok ((e, h), rest) → Within h e 1 xs rest × (h ≤ n)
gives_within n e h xs rest r =
    let s = subst (λ (o : Outcome Tall). Sound n 1 xs o) r (sound n 1 xs (omega arith) (omega arith)) in (s.0.tree, s.0.low)

finds_by : (n : ℕ) (e : Expr) (xs rest : List Lexeme) → expr_height e ≤ n → Done (expr_height e) n 1 e xs rest → reading n 1 xs ≡ Ok ((e, expr_height e), rest)
finds_by n e xs rest low (done h hn hb r) =
    let w = gives_within n e h xs rest r in
    let same : h ≡ expr_height e = omega (arith, at_most h e 1 xs rest w.0) in
    r ∙ ap (λ k. Ok ((e, k), rest)) same
finds_by n e xs rest low (over hn r) = absurd (omega arith)

pub finds_expressions : FindsExpressions
finds_expressions n e xs rest s low =
    finds_by n e xs rest low (found (expr_height e) n e 1 xs rest (at_height s.0 e 1 xs rest s.1) s.2)

same_height : (n : ℕ) (e : Expr) (h : ℕ) (xs rest : List Lexeme) → reading n 1 xs ≡ Ok ((e, h), rest) → Done (expr_height e) n 1 e xs rest → h ≤ expr_height e
same_height n e h xs rest is (done k hn hb r) = let same : h ≡ k = ap height_of (sym is ∙ r) in omega arith
same_height n e h xs rest is (over hn r) = absurd (cc)

pub gives_expressions : GivesExpressions
gives_expressions n e h xs rest r =
    let s = subst (λ (o : Outcome Tall). Sound n 1 xs o) r (sound n 1 xs (omega arith) (omega arith)) in
    let w = s.0.tree in
    let low = at_most h e 1 xs rest w in
    let high = same_height n e h xs rest r (found (expr_height e) n e 1 xs rest (at_height h e 1 xs rest w) (omega (arith, s.1))) in
    (grown h n s.0.low e 1 xs rest w, omega arith)

none_by : (m n : ℕ) (e : Expr) (xs rest : List Lexeme) → reading n 1 xs ≡ Err no_tree → Done m n 1 e xs rest → ⊥
none_by m n e xs rest is (done h hm hn r) = cc
none_by m n e xs rest is (over hm r) = cc

pub refuses_expressions : RefusesExpressions
refuses_expressions n e xs rest is s = none_by s.0 n e xs rest is (found s.0 n e 1 xs rest s.1 s.2)

high_by : (n : ℕ) (e : Expr) (xs rest : List Lexeme) → reading n 1 xs ≡ Err too_high → Done (expr_height e) n 1 e xs rest → n < expr_height e
high_by n e xs rest is (done h hm hn r) = absurd (cc)
high_by n e xs rest is (over hm r) = hm

pub refuses_high_ones : RefusesHighOnes
refuses_high_ones n xs is = (
  λ e rest s. high_by n e xs rest is (found (expr_height e) n e 1 xs rest (at_height s.0 e 1 xs rest s.1) s.2),
  subst (λ (o : Outcome Tall). Sound n 1 xs o) is (sound n 1 xs (omega arith) (omega arith)),
)

pub one_expression : OneExpression
one_expression e d xs ys zs s t =
    let n = max (expr_height e) (expr_height d) in
    let p = finds_expressions n e xs ys s (omega arith) in
    let q = finds_expressions n d xs zs t (omega arith) in
    (ap (tree_of e) (sym p ∙ q), ap rest_of (sym p ∙ q))

pub height_is_least : HeightIsLeast
height_is_least n e l xs rest w = (at_height n e l xs rest w, at_most n e l xs rest w)
