use Rattle.std.proofs.Common.{[], flat_map, rules}
use Rattle.java_exprs.specs.Attr.{of_rule}
use Rattle.java_names.specs.Refusals.{Refuses}
use Rattle.java_statements.specs.Statements.{exception_11}
use Rattle.java_statements.proofs.ListLemmas.{refuses_place}
use Rattle.java_statements.proofs.exceptions.check_all_throwable.Goals as goal

pub returns-in_err-check_throwable : goal.returns-in_err-check_throwable
returns-in_err-check_throwable c =
    let among : Refuses (of_rule 11 (flat_map (exception_11 c.args.env.now) c.args.throws.now) []) c.in_err-check_throwable.field-0.0 =
    refuses_place 11 (exception_11 c.args.env.now) c.args.throws.now _ _ _ c.loop-class-test.true c.class-item.is c.in_err-check_throwable.ensures in
    search rules
