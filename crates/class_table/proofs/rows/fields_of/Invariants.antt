use Rattle.std.proofs.Common.{◌≡◌, ◌≤◌, ◌++◌, flat_map, reverse, length}
use Rattle.class_table.specs.Fields.{part_at}
use Rattle.class_table.proofs.rows.fields_of.Given as goal

abbrev pub invariant-loop-rest : goal.invariant-loop-rest
invariant-loop-rest l = record {
  fields : flat_map (part_at l.parts) (reverse l.line) ≡ flat_map (λ part. part) l.shared ++ flat_map (part_at l.parts) (reverse l.rest);
  shorter : length l.rest ≤ length l.line;
}

abbrev pub decreases-loop-rest : goal.decreases-loop-rest
decreases-loop-rest l = length l.rest
