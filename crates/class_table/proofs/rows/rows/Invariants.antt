use Rattle.std.proofs.Common.{◌≡◌, ◌++◌, drop}
use Rattle.class_table.specs.Table.{rows_from}
use Rattle.class_table.proofs.rows.rows.Given as goal

abbrev pub invariant-loop-class : goal.invariant-loop-class
invariant-loop-class l = record {
  number : l.number ≡ l.class-index;
  rows : rows_from l.index.declared 0 l.declared ≡ l.rows ++ rows_from l.index.declared l.number (drop l.class-index l.declared);
}
