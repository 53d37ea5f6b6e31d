use Rattle.std.proofs.Common.{◌≡◌, ◌++◌, drop}
use Rattle.class_table.specs.Faults.{OfRule}
use Rattle.class_table.specs.Fields.{placed_from}
use Rattle.class_table.specs.Rules.{TooManyFields}
use Rattle.class_table.proofs.Faults.{ClearBelow}
use Rattle.class_table.proofs.rows.place_all.Given as goal

abbrev pub invariant-loop-class : goal.invariant-loop-class
invariant-loop-class l = record {
  number : l.number ≡ l.class-index;
  parts : placed_from l.index.declared 0 l.declared ≡ l.parts ++ placed_from l.index.declared l.number (drop l.class-index l.declared);
  clear : ClearBelow l.declared (λ number d. OfRule 9 (TooManyFields l.index.declared number d)) l.class-index;
}
