use Rattle.std.proofs.Common.{rules, map, ◌≡◌, ◌+◌, ◌∷◌, ◌++◌, drop, arith}
use Rattle.std.proofs.lemmas.Grind.{common_steps}
use Rattle.java_exprs.specs.Attr.{values_faults}
use Rattle.java_names.specs.Refusals.{Refuses}
use Rattle.java_exprs.specs.Checks.{attr, of_values}
use Rattle.java_exprs.proofs.RulesLemmas.{refuses_among}
use Rattle.java_exprs.proofs.expression.+expressions.Goals as goal

pub values-returns-in_err-value-clause-fault : goal.values-returns-in_err-value-clause-fault
values-returns-in_err-value-clause-fault t c =
    let known = attr c.args.env.now c.args.scope.now in
    let is : map known c.args.list.now ≡ of_values c.loop-e.done ++ known c.e-item.result ∷ map known (drop (c.loop-e.e-index + 1) c.args.list.now) = grind (arith, common_steps) in
    let among : Refuses (values_faults (map known c.args.list.now)) c.in_err-value.field-0.0 = refuses_among _ c.loop-e.done _ _ _ is c.in_err-value.ensures.fault in
    search rules
