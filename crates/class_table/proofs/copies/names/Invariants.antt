use Rattle.std.proofs.Common.{◌≡◌, ◌++◌, drop}
use Rattle.class_table.specs.Members.{names_of}
use Rattle.class_table.proofs.copies.names.Given as goal

abbrev pub invariant-loop-ident : goal.invariant-loop-ident
invariant-loop-ident l = names_of l.idents ≡ l.names ++ names_of (drop l.ident-index l.idents)
