use Rattle.std.proofs.Common.{◌≡◌, ◌∙◌, ◌+◌, List, [], ◌∷◌, ◌++◌, ap, arith, drop, flat_map, map, rules, sym}
use Rattle.std.proofs.lemmas.Grind.{common_steps}
use Rattle.java_syntax.specs.declared.expression.Expr.{Expr}
use Rattle.java_syntax.specs.declared.expression.Expr.TheOpen.{Expr-F}
use Rattle.java_names.specs.Refusals.{Refuses}
use Rattle.java_denotes.specs.Known.{known_of}
use Rattle.java_denotes.proofs.KnownLemmas.{known_call, known_super}
use Rattle.throw_check.specs.Points.{expr_points, points_here}
use Rattle.throw_check.specs.Walks.{faults_left}
use Rattle.throw_check.proofs.LeftLemmas.{handles_behind, left_both, left_first, left_none}
use Rattle.throw_check.proofs.PointLemmas.{points_call, points_super, points_new}
use Rattle.throw_check.proofs.expression.+expressions.Goals as goal

pub expr-returns-in_ok-each-in-Call-clause-known : goal.expr-returns-in_ok-each-in-Call-clause-known
expr-returns-in_ok-each-in-Call-clause-known t c =
    rw (c.in-Call.is, known_call c.args.symbols.now c.args.scope.now c.in-Call.m c.in-Call.xs, sym c.as_slice-in-Call.ensures) c.call.ensures.known

pub expr-returns-in_ok-each-in-Call-clause-handled : goal.expr-returns-in_ok-each-in-Call-clause-handled
expr-returns-in_ok-each-in-Call-clause-handled t c =
    let y = c.args.symbols.now in
    let s = c.args.scope.now in
    rw (c.in-Call.is, points_call y s c.in-Call.m c.in-Call.xs)
    (handles_behind y c.args.handlers.now (flat_map (expr_points y s) c.in-Call.xs) (points_here y s (Expr-F.Call c.in-Call.m (map (known_of y s) c.in-Call.xs))) c.call.result
    (rw c.as_slice.ensures at c.in_ok-each-in-Call.ensures) (rw c.as_slice-in-Call.ensures at c.call.ensures.handled))

pub expr-returns-in_ok-each-in-Super-clause-known : goal.expr-returns-in_ok-each-in-Super-clause-known
expr-returns-in_ok-each-in-Super-clause-known t c =
    rw (c.in-Super.is, known_super c.args.symbols.now c.args.scope.now c.in-Super.at c.in-Super.m c.in-Super.xs, sym c.as_slice-in-Super-2.ensures) c.super_call.ensures.known

pub expr-returns-in_ok-each-in-Super-clause-handled : goal.expr-returns-in_ok-each-in-Super-clause-handled
expr-returns-in_ok-each-in-Super-clause-handled t c =
    let y = c.args.symbols.now in
    let s = c.args.scope.now in
    rw (c.in-Super.is, points_super y s c.in-Super.at c.in-Super.m c.in-Super.xs)
    (handles_behind y c.args.handlers.now (flat_map (expr_points y s) c.in-Super.xs) (points_here y s (Expr-F.Super c.in-Super.at c.in-Super.m (map (known_of y s) c.in-Super.xs))) c.super_call.result
    (rw c.as_slice-in-Super.ensures at c.in_ok-each-in-Super.ensures) (rw c.as_slice-in-Super-2.ensures at c.super_call.ensures.handled))

pub expr-returns-in_ok-each-in-New-clause-handled : goal.expr-returns-in_ok-each-in-New-clause-handled
expr-returns-in_ok-each-in-New-clause-handled t c =
    let y = c.args.symbols.now in
    let s = c.args.scope.now in
    rw (c.in-New.is, points_new y s c.in-New.at c.in-New.class c.in-New.xs)
    (handles_behind y c.args.handlers.now (flat_map (expr_points y s) c.in-New.xs) (points_here y s (Expr-F.New c.in-New.at c.in-New.class (map (known_of y s) c.in-New.xs))) c.new_object.result
    (rw c.as_slice-in-New.ensures at c.in_ok-each-in-New.ensures) (rw c.as_slice-in-New-2.ensures at c.new_object.ensures.handled))

pub each-returns-in_err-expr : goal.each-returns-in_err-expr
each-returns-in_err-expr t c =
    let y = c.args.symbols.now in
    let h = c.args.handlers.now in
    let at = expr_points y c.args.scope.now in
    let rest = drop (c.loop-e.e-index + 1) c.args.list.now in
    let is : drop c.loop-e.e-index c.args.list.now ≡ c.e-item.result ∷ rest = grind (arith, common_steps) in
    let whole : faults_left y h (flat_map at c.args.list.now) ≡ faults_left y h (at c.e-item.result ++ flat_map at rest)
    = c.loop-e.invariant ∙ ap (λ (es : List Expr). faults_left y h (flat_map at es)) is in
    let among : Refuses (faults_left y h (flat_map at c.args.list.now)) c.in_err-expr.field-0.0
    = rw whole (left_first y h (at c.e-item.result) (flat_map at rest) c.in_err-expr.field-0.0 c.in_err-expr.ensures.handled) in
    search rules

pub each-loop-e-preserved : goal.each-loop-e-preserved
each-loop-e-preserved t c =
    let y = c.args.symbols.now in
    let h = c.args.handlers.now in
    let at = expr_points y c.args.scope.now in
    let rest = drop (c.loop-e.e-index + 1) c.args.list.now in
    let is : drop c.loop-e.e-index c.args.list.now ≡ c.e-item.result ∷ rest = grind (arith, common_steps) in
    let whole : faults_left y h (flat_map at c.args.list.now) ≡ faults_left y h (at c.e-item.result ++ flat_map at rest)
    = c.loop-e.invariant ∙ ap (λ (es : List Expr). faults_left y h (flat_map at es)) is in
    whole ∙ rw (left_both y h (at c.e-item.result) (flat_map at rest), c.in_ok-expr.ensures.handled)

pub each-returns : goal.each-returns
each-returns t c =
    let y = c.args.symbols.now in
    let h = c.args.handlers.now in
    let at = expr_points y c.args.scope.now in
    let is : drop c.loop-e.e-index c.args.list.now ≡ [] = grind (arith, common_steps) in
    c.loop-e.invariant ∙ ap (λ (es : List Expr). faults_left y h (flat_map at es)) is ∙ left_none y h
