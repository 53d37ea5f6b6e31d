use Rattle.std.proofs.Common.{◌≡◌, ◌-◌, length}
use Rattle.core_tree.specs.Types.{is_subclass}
use Rattle.class_order.proofs.Lines.{found_above}
use Rattle.class_order.proofs.subclass.is_subclass.Given as goal

abbrev pub invariant-loop : goal.invariant-loop
invariant-loop l = is_subclass l.classes l.class l.of ≡ found_above (length l.classes - l.counter) l.classes l.at l.of l.found
