use Rattle.std.proofs.Common.{◌≡◌, ◌+◌, drop}
use Rattle.java_names.specs.Numbers.{written_from}
use Rattle.java_names.proofs.numbers.first_numbers.Given as goal

abbrev pub invariant-loop-row : goal.invariant-loop-row
invariant-loop-row l = written_from 0 l.rows ≡ l.written + written_from l.class (drop l.row-index l.rows)
