use Rattle.std.proofs.Common.{◌≡◌, ◌++◌, drop, map}
use Rattle.java_members.specs.Files.{built_in_own}
use Rattle.java_members.proofs.own_fields.built_in_fields.Given as goal

abbrev pub invariant-loop-class : goal.invariant-loop-class
invariant-loop-class l = map built_in_own l.classes ≡ l.all ++ map built_in_own (drop l.class-index l.classes)
