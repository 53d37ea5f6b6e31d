use Rattle.std.proofs.Common.{◌≡◌, length}
use Rattle.java_members.specs.Declarations.{has_repeated}
use Rattle.java_members.proofs.modifiers.has_repeated.Given as goal

abbrev pub invariant-loop-words : goal.invariant-loop-words
invariant-loop-words l = has_repeated l.fn.words ≡ has_repeated l.words

abbrev pub decreases-loop-words : goal.decreases-loop-words
decreases-loop-words l = length l.words
