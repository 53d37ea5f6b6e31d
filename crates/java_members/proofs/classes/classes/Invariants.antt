use Rattle.std.proofs.Common.{◌≡◌, ◌++◌, drop}
use Rattle.java_members.specs.Files.{core_classes}
use Rattle.java_members.proofs.classes.classes.Given as goal

abbrev pub invariant-loop-row : goal.invariant-loop-row
invariant-loop-row l = core_classes l.env l.tree 0 l.rows ≡ l.classes ++ core_classes l.env l.tree l.number (drop l.row-index l.rows)
