use Rattle.std.proofs.Common.{◌≡◌, ◌+◌, ◌++◌, drop}
use Rattle.class_table.specs.Declarations.{declarations}
use Rattle.class_table.specs.Rules.{ClassFault}
use Rattle.class_table.proofs.Faults.{ClearBelow}
use Rattle.class_table.proofs.declare.declare.Given as goal

abbrev pub invariant-loop-class : goal.invariant-loop-class
invariant-loop-class l = record {
  number : l.number ≡ 18 + l.class-index;
  all : l.fn.built ++ declarations l.names 18 l.classes ≡ l.all ++ declarations l.names l.number (drop l.class-index l.classes);
  clear : ClearBelow l.classes (λ number. ClassFault l.names) l.class-index;
}
