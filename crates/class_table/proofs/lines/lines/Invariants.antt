use Rattle.std.proofs.Common.{◌≡◌, ◌++◌, ◌<◌, ℕ, drop, length, None}
use Rattle.class_table.specs.Ancestors.{up}
use Rattle.class_table.specs.Lines.{lines_of, lines_from}
use Rattle.class_table.proofs.lines.lines.Given as goal

abbrev pub invariant-loop : goal.invariant-loop
invariant-loop l = record {
  class : l.class ≡ l.index;
  lines : lines_of l.declared ≡ l.lines ++ lines_from l.parents l.class (drop l.index l.declared);
  ends : (c : ℕ) → c < l.index → up l.parents (length l.parents) c ≡ None;
}
