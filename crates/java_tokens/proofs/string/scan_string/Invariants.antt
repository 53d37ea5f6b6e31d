use Rattle.std.proofs.Common.{◌-◌, length}
use Rattle.java_tokens.proofs.StringSteps.{HasRead}
use Rattle.java_tokens.proofs.string.scan_string.Given as goal

abbrev pub invariant-loop-at : goal.invariant-loop-at
invariant-loop-at l = HasRead l.characters l.text.items l.at

abbrev pub decreases-loop-at : goal.decreases-loop-at
decreases-loop-at l = length l.characters - l.at
