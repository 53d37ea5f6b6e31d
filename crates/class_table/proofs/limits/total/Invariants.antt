use Rattle.std.proofs.Common.{◌≡◌, ◌+◌, ◌≤◌, drop}
use Rattle.class_table.specs.Fields.{instance_total}
use Rattle.class_table.proofs.limits.total.Given as goal

abbrev pub invariant-loop-class : goal.invariant-loop-class
invariant-loop-class l = record {
  total : instance_total l.index.declared l.line ≡ l.total + instance_total l.index.declared (drop l.class-index l.line);
  few : l.total ≤ 255;
}
