use Rattle.std.proofs.Common.{◌≡◌, ◌++◌, drop}
use Rattle.class_table.specs.Ancestors.{parents_of}
use Rattle.class_table.proofs.lines.parents.Given as goal

abbrev pub invariant-loop-class : goal.invariant-loop-class
invariant-loop-class l = parents_of l.declared ≡ l.parents ++ parents_of (drop l.class-index l.declared)
