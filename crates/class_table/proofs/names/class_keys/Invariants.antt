use Rattle.std.proofs.Common.{◌≡◌, ◌≤◌, length, take}
use Rattle.class_table.specs.Names.{class_names}
use Rattle.class_table.specs.Rules.{NameTaken, NameReserved}
use Rattle.class_table.proofs.Faults.{ClearBelow}
use Rattle.class_table.proofs.names.class_keys.Given as goal

abbrev pub invariant-loop-class : goal.invariant-loop-class
invariant-loop-class l = record {
  names : l.names ≡ class_names (take l.class-index l.classes);
  few : length l.classes ≤ 1000;
  taken : ClearBelow l.classes (NameTaken l.classes) l.class-index;
  reserved : ClearBelow l.classes (λ number. NameReserved) l.class-index;
}
