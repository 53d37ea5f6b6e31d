use Rattle.std.proofs.Common.{◌≡◌, max, map, drop}
use Rattle.token_reading.specs.Height.{highest}
use Rattle.java_syntax.specs.Height.{class_height}
use Rattle.java_syntax.proofs.class.FileTree.height.Given as goal

abbrev pub invariant-loop-class : goal.invariant-loop-class
invariant-loop-class l = max l.height (highest (map class_height (drop l.class-index l.self.classes))) ≡ highest (map class_height l.self.classes)
