use Rattle.std.proofs.Common.{◌≡◌, take}
use Rattle.class_table.specs.Faults.{OfRule}
use Rattle.class_table.specs.Index.{arities}
use Rattle.class_table.specs.Rules.{SameArity}
use Rattle.class_table.proofs.Faults.{ClearBelow}
use Rattle.class_table.proofs.methods.check_arities.Given as goal

abbrev pub invariant-loop-maker : goal.invariant-loop-maker
invariant-loop-maker l = record {
  keys : l.keys ≡ arities (take l.maker-index l.makers);
  clear : ClearBelow l.makers (λ place m. OfRule 5 (SameArity l.makers place m)) l.maker-index;
}
