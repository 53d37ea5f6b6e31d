use Rattle.std.proofs.Common.{◌≡◌, ◌++◌, drop, flat_map}
use Rattle.throw_check.specs.Files.{maker_classes}
use Rattle.throw_check.proofs.declared.maker_lists.Given as goal

abbrev pub invariant-loop-member : goal.invariant-loop-member
invariant-loop-member l = flat_map (maker_classes l.symbols) l.list ≡ l.lists ++ flat_map (maker_classes l.symbols) (drop l.member-index l.list)
