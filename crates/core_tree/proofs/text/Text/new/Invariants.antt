use Rattle.std.proofs.Common.{◌≡◌, take, sum_by}
use Rattle.core_tree.specs.Text.{units_of}
use Rattle.core_tree.proofs.text.Text.new.Given as goal

abbrev pub invariant-loop-character : goal.invariant-loop-character
invariant-loop-character l = l.units ≡ sum_by units_of (take l.character-index l.character-items)
