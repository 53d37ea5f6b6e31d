use Rattle.std.proofs.Common.{◌≡◌, max, map, drop}
use Rattle.token_reading.specs.Height.{highest}
use Rattle.java_syntax.specs.Height.{member_height}
use Rattle.java_syntax.proofs.class.ClassTree.height.Given as goal

abbrev pub invariant-loop-member : goal.invariant-loop-member
invariant-loop-member l = max l.height (highest (map member_height (drop l.member-index l.self.members))) ≡ highest (map member_height l.self.members)
