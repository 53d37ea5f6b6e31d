use Rattle.std.proofs.Common.{◌∙◌, sym, ap}
use Rattle.java_denotes.specs.Lookups.{variable_denotes}
use Rattle.java_exprs.proofs.CleanLemmas.{known_by_parts}
use Rattle.java_exprs.proofs.members.member.Goals as goal

pub returns : goal.returns
returns c =
    known_by_parts c.args.receiver.at _ _ _ _ c.in_ok-denotes.denotes c.form_of.result c.in_ok-core.core
    (sym (ap variable_denotes c.get.ensures) ∙ c.in_ok-denotes.ensures.value) (sym c.form_of.ensures) (sym c.in_ok-core.ensures.core) c.in_ok-check_field.ensures
