use Rattle.std.proofs.Common.{◌≡◌, drop, flat_map}
use Rattle.java_statements.specs.Statements.{exception_10}
use Rattle.java_statements.proofs.exceptions.check_all_known.Given as goal

abbrev pub invariant-loop-class : goal.invariant-loop-class
invariant-loop-class l = flat_map (exception_10 l.env) l.throws ≡ flat_map (exception_10 l.env) (drop l.class-index l.throws)
