use Rattle.std.proofs.Common.{◌≡◌, ◌∙◌, map, rules, sym, ap}
use Rattle.java_syntax.specs.declared.expression.Expr.TheOpen.{Expr-F}
use Rattle.java_names.specs.Refusals.{Refuses}
use Rattle.java_denotes.specs.Known.{known_of}
use Rattle.throw_check.specs.Points.{maker_throws, points_at, points_here}
use Rattle.throw_check.specs.Walks.{faults_left}
use Rattle.throw_check.proofs.CallLemmas.{new_points}
use Rattle.throw_check.proofs.calls.new_object.Goals as goal

pub returns-in_err-check-clause-handled : goal.returns-in_err-check-clause-handled
returns-in_err-check-clause-handled c =
    let symbols = c.args.symbols.now in
    let node = Expr-F.New c.args.at c.args.class.now (map (known_of symbols c.args.scope.now) c.args.arguments.now) in
    let is : points_here symbols c.args.scope.now node ≡ points_at c.args.at c.thrown_by_maker.result.now
    = new_points symbols c.args.scope.now c.args.at c.args.class.now c.args.arguments.now ∙ ap (points_at c.args.at) (sym (c.thrown_by_maker.ensures ∙ ap maker_throws c.maker_named-maker.ensures)) in
    let among : Refuses (faults_left c.args.symbols.now c.args.handlers.now (points_here symbols c.args.scope.now node)) c.in_err-check.field-0.0
    = rw is c.in_err-check.ensures in
    search rules
