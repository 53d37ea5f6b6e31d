use Rattle.std.proofs.Common.{◌≡◌, ◌++◌, drop}
use Rattle.class_table.specs.Members.{types_of}
use Rattle.java_names.specs.Types.{declared_types}
use Rattle.java_members.proofs.types.param_types.Given as goal

abbrev pub invariant-loop-param : goal.invariant-loop-param
invariant-loop-param l =
    declared_types l.env.symbols.names (types_of l.params) ≡ l.types ++ declared_types l.env.symbols.names (types_of (drop l.param-index l.params))
