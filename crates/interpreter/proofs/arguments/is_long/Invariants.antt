use Rattle.std.proofs.Common.{◌≡◌, ◌≤◌, take}
use Rattle.core_tree.specs.Text.{code_units}
use Rattle.evaluation.specs.Values.{most_units}
use Rattle.interpreter.proofs.arguments.is_long.Given as goal

abbrev pub invariant-loop-character : goal.invariant-loop-character
invariant-loop-character l = (l.units ≡ code_units (take l.character-index l.characters)) × (l.units ≤ most_units)
