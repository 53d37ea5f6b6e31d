use Rattle.std.proofs.Common.{◌≡◌, ◌++◌, drop}
use Rattle.class_table.specs.Members.{param_names}
use Rattle.class_table.proofs.copies.names_of_params.Given as goal

abbrev pub invariant-loop-param : goal.invariant-loop-param
invariant-loop-param l = param_names l.params ≡ l.names ++ param_names (drop l.param-index l.params)
