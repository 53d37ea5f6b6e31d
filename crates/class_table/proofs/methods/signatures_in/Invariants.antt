use Rattle.std.proofs.Common.{◌≡◌, take}
use Rattle.class_table.specs.Faults.{OfRule}
use Rattle.class_table.specs.Index.{signatures}
use Rattle.class_table.specs.Rules.{CalledAlike}
use Rattle.class_table.proofs.Faults.{ClearBelow}
use Rattle.class_table.proofs.methods.signatures_in.Given as goal

abbrev pub invariant-loop-method : goal.invariant-loop-method
invariant-loop-method l = record {
  keys : l.keys ≡ signatures (take l.method-index l.methods);
  clear : ClearBelow l.methods (λ place m. OfRule 5 (CalledAlike l.methods place m)) l.method-index;
}
