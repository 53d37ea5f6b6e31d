use Rattle.std.proofs.Common.{◌≡◌, ◌++◌, drop}
use Rattle.class_table.specs.Members.{types_of}
use Rattle.class_table.proofs.copies.types.Given as goal

abbrev pub invariant-loop-param : goal.invariant-loop-param
invariant-loop-param l = types_of l.params ≡ l.types ++ types_of (drop l.param-index l.params)
