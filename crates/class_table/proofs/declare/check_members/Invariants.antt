use Rattle.class_table.specs.Faults.{OfRule}
use Rattle.class_table.specs.Rules.{NamedOtherwise}
use Rattle.class_table.proofs.Faults.{ClearBelow}
use Rattle.class_table.proofs.declare.check_members.Given as goal

abbrev pub invariant-loop-member : goal.invariant-loop-member
invariant-loop-member l = ClearBelow l.members (λ place member. OfRule 8 (NamedOtherwise l.name member)) l.member-index
