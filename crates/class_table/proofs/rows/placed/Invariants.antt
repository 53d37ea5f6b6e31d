use Rattle.std.proofs.Common.{◌≡◌, ◌+◌, ◌++◌, ◌≤◌, drop, filter, length}
use Rattle.class_table.specs.Members.{is_instance}
use Rattle.class_table.specs.Fields.{numbered}
use Rattle.class_table.proofs.rows.placed.Given as goal

abbrev pub invariant-loop-field : goal.invariant-loop-field
invariant-loop-field l = record {
  rows : numbered l.start l.fields ≡ l.rows ++ numbered l.next (drop l.field-index l.fields);
  few : l.next + length (filter is_instance (drop l.field-index l.fields)) ≤ 255;
}
