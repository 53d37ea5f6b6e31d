use Rattle.std.proofs.Common.{◌≡◌, ◌++◌, drop}
use Rattle.class_table.specs.Index.{counts_of}
use Rattle.class_table.proofs.limits.counts.Given as goal

abbrev pub invariant-loop-class : goal.invariant-loop-class
invariant-loop-class l = counts_of l.declared ≡ l.counts ++ counts_of (drop l.class-index l.declared)
