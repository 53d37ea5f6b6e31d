use Rattle.std.proofs.Common.{[], flat_map, rules}
use Rattle.java_exprs.specs.Attr.{of_rule}
use Rattle.java_names.specs.Refusals.{Refuses}
use Rattle.java_statements.specs.Statements.{exception_10}
use Rattle.java_statements.proofs.ListLemmas.{refuses_place}
use Rattle.java_statements.proofs.exceptions.check_all_known.Goals as goal

pub returns-in_err-check_known : goal.returns-in_err-check_known
returns-in_err-check_known c =
    let among : Refuses (of_rule 10 (flat_map (exception_10 c.args.env.now) c.args.throws.now) []) c.in_err-check_known.field-0.0 =
    refuses_place 10 (exception_10 c.args.env.now) c.args.throws.now _ _ _ c.loop-class-test.true c.class-item.is c.in_err-check_known.ensures in
    search rules
