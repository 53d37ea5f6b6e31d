use Rattle.std.proofs.Common.{◌≡◌}
use Rattle.java_names.specs.Types.{arrays}
use Rattle.java_names.proofs.types.arrays.Given as goal

abbrev pub invariant-loop : goal.invariant-loop
invariant-loop l = l.ty ≡ arrays l.counter l.fn.ty
