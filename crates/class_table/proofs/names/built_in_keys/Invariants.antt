use Rattle.std.proofs.Common.{◌≡◌, drop, map, []}
use Rattle.indexmap.specs.IndexSet.{insert_all}
use Rattle.class_table.specs.Names.{same_name}
use Rattle.class_table.proofs.names.built_in_keys.Given as goal

abbrev pub invariant-loop-class : goal.invariant-loop-class
invariant-loop-class l = insert_all same_name l.keys (map (λ d. d.name) (drop l.class-index l.built)) ≡ insert_all same_name [] (map (λ d. d.name) l.built)
