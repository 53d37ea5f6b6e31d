use Rattle.std.proofs.Common.{◌≡◌, drop, flat_map}
use Rattle.throw_check.specs.Files.{member_faults}
use Rattle.throw_check.proofs.file.members.Given as goal

abbrev pub invariant-loop-tree : goal.invariant-loop-tree
invariant-loop-tree l =
    flat_map (member_faults l.symbols l.class l.handlers.declared) l.list
    ≡ flat_map (member_faults l.symbols l.class l.handlers.declared) (drop l.tree-index l.list)
