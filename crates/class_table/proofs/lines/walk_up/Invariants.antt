use Rattle.std.proofs.Common.{◌≡◌, ◌-◌, ◌++◌, length}
use Rattle.class_table.specs.Ancestors.{up, climb, line_of}
use Rattle.class_table.proofs.lines.walk_up.Given as goal

abbrev pub invariant-loop : goal.invariant-loop
invariant-loop l = record {
  line : line_of l.parents l.class ≡ l.line ++ climb l.parents (length l.parents - l.counter) l.next;
  next : up l.parents l.counter l.class ≡ l.next;
}
