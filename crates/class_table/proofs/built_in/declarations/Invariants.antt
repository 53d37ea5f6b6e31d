use Rattle.std.proofs.Common.{◌≡◌, ◌++◌, drop, map}
use Rattle.class_table.specs.BuiltIn.{declaration_of}
use Rattle.class_table.proofs.built_in.declarations.Given as goal

abbrev pub invariant-loop-class : goal.invariant-loop-class
invariant-loop-class l = map declaration_of l.classes ≡ l.all ++ map declaration_of (drop l.class-index l.classes)
