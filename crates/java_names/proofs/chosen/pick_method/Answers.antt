use Rattle.std.proofs.Common.{sym}
use Rattle.java_names.proofs.ChosenLemmas.{none_without_number, none_without_selector}
use Rattle.java_names.proofs.chosen.pick_method.Goals as goal

pub returns-in_default-number : goal.returns-in_default-number
returns-in_default-number c = sym (none_without_number c.args.method.now c.args.picks.now c.in_default-number.is)

pub returns-in_default : goal.returns-in_default
returns-in_default c = sym (none_without_selector c.args.method.now c.args.picks.now c.in_default.is)
