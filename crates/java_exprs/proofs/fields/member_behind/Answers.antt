use Rattle.java_exprs.proofs.FieldLemmas.{member_checks}
use Rattle.java_exprs.proofs.fields.member_behind.Goals as goal

pub returns : goal.returns
returns c =
    member_checks c.args.env.now c.args.scope.now c.args.receiver c.args.object c.args.f.now c.in_ok-field.field.now c.member.result
    c.in_ok-field.ensures.found c.member.ensures
