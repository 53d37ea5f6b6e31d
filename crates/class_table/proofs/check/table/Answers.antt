use Rattle.class_table.proofs.CheckLemmas.{table_keeps}
use Rattle.class_table.proofs.check.table.Goals as goal

pub returns-clause-facts : goal.returns-clause-facts
returns-clause-facts c =
    let index = c.in_ok-index.ensures in
    let rows = c.in_ok-classes.ensures in
    table_keeps _ _ _ _ _ index.names index.declared c.as_slice-2.ensures index.few index.ends rows.clear rows.rows
